-- `file_order::comes_before` meets its contract.
use mathlib.Core.Path.{◌≡◌, refl, ap, ◌∙◌}
use Rattle.std.specs.Cmp.Lexicographic.{slice_cmp}
use Rattle.std.specs.Ordering.{is_lt, nat_cmp}
use Rattle.std.proofs.lemmas.Iterator.{YieldsList-from_slice}
use Rattle.std.proofs.lemmas.Iterator.Search.{cmp_from_yields_List}
use Rattle.file_order.proofs.Names.{before-cmp}
use Rattle.file_order.proofs.comes_before.Goals as goal

pub returns : goal.returns
returns c =
    let order : c.cmp.result ≡ slice_cmp nat_cmp c.args.a.now c.args.b.now =
    cmp_from_yields_List (λ x y. y ≡ x) _ nat_cmp _ c.cmp.ensures.ran (YieldsList-from_slice c.args.a.now cc) (λ it e. YieldsList-from_slice c.args.b.now cc) (λ x y. refl)
    in
    c.is_lt.ensures ∙ ap is_lt order ∙ before-cmp c.args.a.now c.args.b.now
