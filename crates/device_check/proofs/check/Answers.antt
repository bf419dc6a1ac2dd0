-- `device_check::check` meets its contract.
-- Assumes nothing.
use mathlib.Core.Path.{sym, ◌∙◌}
use native.Mathlib.Omega.{arith}
use Rattle.device_head.specs.Read.{head_in}
use Rattle.device_check.proofs.Chain.{next_at, next-path, event_at, record_long, record_short, head_faulty, properties-faulty, event_faulty, chain-judged}
use Rattle.device_check.proofs.check.Goals as goal

pub returns-then-rec-gt16384 : goal.returns-then-rec-gt16384
returns-then-rec-gt16384 c = sym (record_long c.args.rec.now c.if-rec-gt16384.true)

pub returns-then-rec-lt7 : goal.returns-then-rec-lt7
returns-then-rec-lt7 c = sym (record_short c.args.rec.now c.if-rec-gt16384.false c.if-rec-lt7.true)

pub returns-then-not-ok_head : goal.returns-then-not-ok_head
returns-then-not-ok_head c =
    let l = c.args.rec.now in
    sym (head_faulty l (omega arith) (omega arith) (head_in c.read_head-head.result) c.read_head-head.ensures.is (sym c.ok_head.ensures ∙ c.if-not-ok_head.true))

pub returns-in_default : goal.returns-in_default
returns-in_default c =
    let l = c.args.rec.now in
    sym
    (properties-faulty l (omega arith) (omega arith) (head_in c.read_head-head.result) c.read_head-head.ensures.is
    (sym c.ok_head.ensures ∙ c.if-not-ok_head.false)
    (sym c.in_default.ensures))

pub check_member-requires : goal.check_member-requires
check_member-requires c =
    let v = event_at c.args.rec.now (λ i. (c.type_inv.rec i).fits) c.read_head-head.result.properties c.in-Some.event (omega arith) (sym c.in-Some.ensures) in
    (v.within, omega arith)

pub returns-in_default-check_member : goal.returns-in_default-check_member
returns-in_default-check_member c =
    let l = c.args.rec.now in
    let v = event_at l (λ i. (c.type_inv.rec i).fits) c.read_head-head.result.properties c.in-Some.event (omega arith) (sym c.in-Some.ensures) in
    sym
    (event_faulty l (omega arith) (omega arith) (head_in c.read_head-head.result) c.read_head-head.ensures.is
    (sym c.ok_head.ensures ∙ c.if-not-ok_head.false)
    c.in-Some.event v
    (sym c.in_default-check_member.ensures))

pub check_parents-requires : goal.check_parents-requires
check_parents-requires c =
    let l = c.args.rec.now in
    let v = event_at l (λ i. (c.type_inv.rec i).fits) c.read_head-head.result.properties c.in-Some.event (omega arith) (sym c.in-Some.ensures) in
    let n = next_at l (λ i. (c.type_inv.rec i).fits) c.in-Some.event c.in-Some-check_member.parents v.within (sym c.in-Some-check_member.ensures) in
    (n.within, omega arith, next-path _ _ _ n)

pub returns : goal.returns
returns c =
    let l = c.args.rec.now in
    let v = event_at l (λ i. (c.type_inv.rec i).fits) c.read_head-head.result.properties c.in-Some.event (omega arith) (sym c.in-Some.ensures) in
    let n = next_at l (λ i. (c.type_inv.rec i).fits) c.in-Some.event c.in-Some-check_member.parents v.within (sym c.in-Some-check_member.ensures) in
    c.check_parents.ensures
    ∙ sym
    (chain-judged l (omega arith) (omega arith) (head_in c.read_head-head.result) c.read_head-head.ensures.is
    (sym c.ok_head.ensures ∙ c.if-not-ok_head.false)
    c.in-Some.event v c.in-Some-check_member.parents n)
