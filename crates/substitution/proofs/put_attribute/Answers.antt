-- `substitution::put_attribute` meets its contract.
use mathlib.Core.Path.{ap, subst, ◌∙◌}
use native.Mathlib.Omega.{arith}
use lib.ListN.{length}
use Rattle.std.specs.Prelude.{None, Some}
use Rattle.substitution.proofs.Parts.{appended_same, attribute-here, attribute_there}
use Rattle.lists.proofs.Moves.{sized-part}
use Rattle.engine.specs.Substitute.{first_of, attr_at}
use Rattle.device_lookup.specs.Lookup.{Says, Within}
use Rattle.device.specs.Device.{attr_of}
use Rattle.entries.specs.Entry.{or_empty}
use Rattle.lists.specs.Runs.{trim}
use Rattle.substitution.proofs.put_attribute.Goals as goal

pub overflow_add-found : goal.overflow_add-found
overflow_add-found c =
    let w : Within (Some c.in-Some.found) (length c.args.dev.now) = rw c.in-Some.is at c.find_attribute_at.ensures.1 in
    omega arith

pub slice_bounds-put_trimmed-end : goal.slice_bounds-put_trimmed-end
slice_bounds-put_trimmed-end c =
    let w : Within (Some c.in-Some.found) (length c.args.dev.now) = rw c.in-Some.is at c.find_attribute_at.ensures.1 in
    omega arith

pub returns-in-Some : goal.returns-in-Some
returns-in-Some c =
    let a = c.args in
    let found = c.in-Some.found in
    λ m h o k.
    let w : Says a.dev.now (Some found) (attr_of a.key.now m) = rw c.in-Some.is at (c.find_attribute_at.ensures.0 m h) in
    appended_same a.spaceless _ (trim (or_empty (first_of (attr_of a.key.now m) (attr_at a.key.now o)))) a.out.now
    a.used c.put_trimmed.result _
    (ap trim (sized-part a.dev.now found.start found.len ∙ attribute-here a.dev.now a.key.now m o found w)) c.put_trimmed.ensures

pub returns-in-None : goal.returns-in-None
returns-in-None c =
    let a = c.args in
    λ m h o k.
    let w : Says a.dev.now None (attr_of a.key.now m) = rw c.in-None.is at (c.find_attribute_at.ensures.0 m h) in
    appended_same a.spaceless _ (trim (or_empty (first_of (attr_of a.key.now m) (attr_at a.key.now o)))) a.out.now
    a.used c.put_parent_attribute.result _ (ap trim (attribute_there a.key.now m o w)) (c.put_parent_attribute.ensures o k)
