-- `session_commands::act` meets its contract: each arm makes its command's call and puts its line (Arms.antt, ActLaws.antt).
use native.Mathlib.Omega.{arith}
use Rattle.session_commands.proofs.ActLaws.{called, take_lined}
use Rattle.session_commands.proofs.Arms.{as_write, as_drive, as_take, as_hand, as_read, as_close}
use Rattle.session_commands.proofs.act.Goals as goal

pub returns-in-Write-clause-acts : goal.returns-in-Write-clause-acts
returns-in-Write-clause-acts c =
    let w = c.put_line.ensures in
    (λ laid has short.
    rw c.write-c.ensures.keeps
    (as_write _ _ _ _ _ _ _ _ _ _ _ c.in-Write.is
    (called _ _ laid _ _ _ _ _ _ _ _ _ _ _ c.write-c.ensures.calls w.0 w.1)))

pub returns-in-Drive-clause-acts : goal.returns-in-Drive-clause-acts
returns-in-Drive-clause-acts c =
    let w = c.put_line-in-Drive.ensures in
    (λ laid has short.
    as_drive _ _ _ _ _ _ _ _ _ _ c.in-Drive.is
    (called _ _ laid _ _ _ _ _ _ _ _ _ _ _ c.drive-c.ensures w.0 w.1))

pub returns-in-Take-clause-acts : goal.returns-in-Take-clause-acts
returns-in-Take-clause-acts c =
    let w = c.put_line-in-Take.ensures in
    (λ laid has short.
    as_take _ _ _ _ _ _ _ _ _ c.in-Take.is
    (take_lined _ _ _ _ _ _ _ _ _ _ _ _ laid (omega arith) c.take_and_keep-c.ensures w.0 w.1))

pub returns-in-Hand-clause-acts : goal.returns-in-Hand-clause-acts
returns-in-Hand-clause-acts c =
    let w = c.put_line-in-Hand.ensures in
    (λ laid has short.
    rw c.hand-c.ensures.keeps
    (as_hand _ _ _ _ _ _ _ _ _ _ _ c.in-Hand.is
    has (λ there. called _ _ laid _ _ _ _ _ _ _ _ _ _ _ (c.hand-c.ensures.calls there) w.0 w.1)))

pub returns-in-Read-clause-acts : goal.returns-in-Read-clause-acts
returns-in-Read-clause-acts c =
    let w = c.read.ensures in
    (λ laid has short. as_read _ _ _ _ _ _ _ _ _ _ c.in-Read.is short (λ small. w.1 _ small laid))

pub returns-in-Close-clause-acts : goal.returns-in-Close-clause-acts
returns-in-Close-clause-acts c =
    let w = c.put_line-in-Close.ensures in
    (λ laid has short.
    as_close _ _ _ _ _ _ _ _ _ c.in-Close.is
    (called _ _ laid _ _ _ _ _ _ _ _ _ _ _ c.close-c.ensures w.0 w.1))
