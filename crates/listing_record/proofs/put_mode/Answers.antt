-- `listing_record::put_mode` meets its contract.
use mathlib.Core.Path.{◌∙◌}
use mathlib.Core.List.{[]}
use Rattle.std.specs.Prelude.{Some}
use Rattle.insertion.proofs.Laws.{appended_none}
use Rattle.engine.specs.Listing.{mode_line}
use Rattle.listing_lines.proofs.Laws.{appended_as}
use Rattle.listing_record.proofs.Laws.{mode-unset, mode-set, mode-flag, mode_bits_lem}
use Rattle.listing_record.proofs.put_mode.Goals as goal

pub returns-then-set-eq0 : goal.returns-then-set-eq0
returns-then-set-eq0 c =
    let x = c.args in
    let field = c.field-set in
    λ n s h.
    appended_as [] (mode_line s.mode) x.out.now x.used (Some x.used) x.out.now
    (mode-unset s.mode field.result (field.ensures.0 ∙ mode-flag n x.t.now x.layout s h) c.if-set-eq0.true)
    (appended_none x.out.now x.used c.requires.room)

pub returns : goal.returns
returns c =
    let x = c.args in
    let field = c.field-set in
    let mode = c.field-mode in
    let put = c.put_mode_line in
    λ n s h.
    appended_as _ (mode_line s.mode) x.out.now x.used put.result put.new.out
    (mode-set s.mode field.result mode.result (field.ensures.0 ∙ mode-flag n x.t.now x.layout s h) c.if-set-eq0.false
    (mode.ensures.0 ∙ mode_bits_lem n x.t.now x.layout s h)) put.ensures
