-- `assign_links::clean_names` meets its contract.
use Rattle.assign_links.proofs.Links.{names_as_is, names-unset, names-replaced, names-clean, names-size}
use mathlib.Core.Path.{refl}
use Rattle.assign_links.proofs.clean_names.Goals as goal

pub returns-in-AsIs : goal.returns-in-AsIs
returns-in-AsIs c = rw c.in-AsIs.is (names_as_is c.args.x.now, (λ h. h), refl)

pub returns-in-Unset : goal.returns-in-Unset
returns-in-Unset c =
    let x = c.args.x.now in
    let clean = c.clean.ensures in
    rw c.in-Unset.is (names-unset x _ clean, names-clean x _ clean, names-size x _ clean)

pub returns-in-Replaced : goal.returns-in-Replaced
returns-in-Replaced c =
    let x = c.args.x.now in
    let clean = c.clean-in-Replaced.ensures in
    rw c.in-Replaced.is (names-replaced x _ clean, names-clean x _ clean, names-size x _ clean)
