-- What is lent with an end before the end is opened.
use Rattle.std.specs.Prelude.{◌≡◌, replicate}
use Rattle.session_commands.specs.declared.EndStores.{EndStores}

-- 01, 'Records': "Fresh: .. stores empty". Nothing is stored, and every byte is 0: 32 slots of 1,400 bytes (44,800), 32 of 1,380 (44,160),
-- 64 state packets of 20 (1,280), and 32 kept datagrams of 1,400.
pub record FreshStores (s : EndStores) : Type 0 where
  pub outgoing : s.outgoing ≡ replicate 44_800 0
  pub incoming : s.incoming ≡ replicate 44_160 0
  pub headers : s.headers ≡ replicate 1_280 0
  pub kept : s.kept ≡ replicate 44_800 0
