-- `session_text::pieces::put_decimal` meets its contract: what is copied are the digits of n.
use mathlib.Core.Path.{◌∙◌}
use native.Mathlib.Omega.{arith}
use Rattle.session_text.proofs.Laws.{digits_put}
use Rattle.session_text.proofs.pieces.put_decimal.Goals as goal

pub returns : goal.returns
returns c =
    digits_put c.args.n c.as_bytes.result.now (omega arith) (c.as_bytes.ensures.value ∙ c.format.ensures.text) c.put_word.ensures
