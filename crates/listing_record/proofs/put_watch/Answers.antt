-- `listing_record::put_watch` meets its contract.
use mathlib.Core.List.{[]}
use mathlib.Core.Path.{sym, ◌∙◌}
use Rattle.std.specs.Prelude.{Some}
use native.Mathlib.Omega.{arith}
use Rattle.lists.specs.Quoted.{bytes}
use Rattle.engine.specs.Listing.{watch_line}
use Rattle.insertion.proofs.Laws.{appended_none}
use Rattle.listing_lines.proofs.Laws.{appended_as}
use Rattle.listing_record.proofs.Laws.{watch_line_lem, nowatch_line, no_line, watch_is}
use Rattle.listing_record.proofs.put_watch.Goals as goal

pub returns-in-1 : goal.returns-in-1
unfolding bytes
returns-in-1 c =
    let a = c.args in
    let put = c.put_text in
    λ n s h.
    appended_as _ (watch_line s.watch) a.out.now a.used put.result put.new.out
    (watch_line_lem s.watch (sym (c.field.ensures.0 ∙ watch_is n a.t.now a.layout s h) ∙ c.in-1.is)) put.ensures

pub returns-in-2 : goal.returns-in-2
unfolding bytes
returns-in-2 c =
    let a = c.args in
    let put = c.put_text-in-2 in
    λ n s h.
    appended_as _ (watch_line s.watch) a.out.now a.used put.result put.new.out
    (nowatch_line s.watch (sym (c.field.ensures.0 ∙ watch_is n a.t.now a.layout s h) ∙ c.in-2.is)) put.ensures

pub returns-in_default : goal.returns-in_default
returns-in_default c =
    let a = c.args in
    λ n s h.
    let watch = c.field.ensures.0 ∙ watch_is n a.t.now a.layout s h in
    appended_as [] (watch_line s.watch) a.out.now a.used (Some a.used) a.out.now
    (no_line s.watch (λ e. omega (arith, watch, e)) (λ e. omega (arith, watch, e)))
    (appended_none a.out.now a.used c.requires.room)
