pub mod SentPiece
