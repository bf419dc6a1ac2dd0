-- `outcome_check::check` meets its contract.
-- Assumes nothing.
use mathlib.Core.Path.{sym, ap, ◌∙◌}
use Rattle.outcome_check.specs.Check.{checked_of}
use Rattle.outcome_check.proofs.Heads.{short_record, bad-header, from-header, ended_twice, ended-sound}
use Rattle.std.specs.Prelude.{Some}
use Rattle.outcome_check.proofs.check.Goals as goal

pub returns-then-rec-lt-HEADER : goal.returns-then-rec-lt-HEADER
returns-then-rec-lt-HEADER c = sym (ap checked_of (short_record c.args.chain c.args.rec.now c.if-rec-lt-HEADER.true))

pub returns-then-not-ok_counts : goal.returns-then-not-ok_counts
returns-then-not-ok_counts c =
    let a = c.args in
    sym (ap checked_of (bad-header a.chain a.rec.now c.if-rec-lt-HEADER.false c.counts_in-c.result c.counts_in-c.ensures (sym c.ok_counts.ensures ∙ c.if-not-ok_counts.true)))

pub returns-in_err-layout : goal.returns-in_err-layout
returns-in_err-layout c =
    let a = c.args in
    c.from_residual.ensures
    ∙ sym (ap checked_of (from-header a.chain a.rec.now c.if-rec-lt-HEADER.false c.counts_in-c.result c.counts_in-c.ensures (sym c.ok_counts.ensures ∙ c.if-not-ok_counts.false) ∙ c.in_err-layout.ensures))

pub entries_apart-requires : goal.entries_apart-requires
entries_apart-requires c = c.in_ok-layout.ensures.3

pub returns-then-not-entries_apart : goal.returns-then-not-entries_apart
returns-then-not-entries_apart c =
    let a = c.args in
    let r = c.in_ok-layout.ensures in
    sym (ap checked_of (from-header a.chain a.rec.now c.if-rec-lt-HEADER.false c.counts_in-c.result c.counts_in-c.ensures (sym c.ok_counts.ensures ∙ c.if-not-ok_counts.false)
    ∙ ended_twice _ r.0 r.1 (sym r.4 ∙ sym c.entries_apart.ensures ∙ c.if-not-entries_apart.true)))

pub returns : goal.returns
returns c =
    let a = c.args in
    let r = c.in_ok-layout.ensures in
    ap Some r.2
    ∙ sym (ap checked_of (from-header a.chain a.rec.now c.if-rec-lt-HEADER.false c.counts_in-c.result c.counts_in-c.ensures (sym c.ok_counts.ensures ∙ c.if-not-ok_counts.false)
    ∙ ended-sound _ r.0 r.1 (sym r.4 ∙ sym c.entries_apart.ensures ∙ c.if-not-entries_apart.false)))
