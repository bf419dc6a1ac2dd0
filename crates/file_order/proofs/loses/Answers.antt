-- `file_order::loses` meets its contract.
use mathlib.Core.Path.{◌≡◌, sym, ap, ◌∙◌}
use mathlib.Core.Bool.{Bool, true, false, not, ◌||◌}
use Rattle.lists.specs.Lists.{any}
use Rattle.lists.specs.Quoted.{bytes}
use Rattle.files.specs.Files.{ends_in, is_rules, above}
use Rattle.file_rows.specs.Places.{file_at, files_at}
use Rattle.file_order.proofs.loses.Goals as goal

pub name_of-requires : goal.name_of-requires
name_of-requires c = c.requires.1

pub returns-then-not-is_rules : goal.returns-then-not-is_rules
returns-then-not-is_rules c =
    let f = file_at c.args.set.now c.args.p in
    let other : is_rules f ≡ false = ap (ends_in (bytes ".rules")) (sym c.name_of.ensures) ∙ sym c.is_rules.ensures ∙ c.if-not-is_rules.true in
    ap not c.if-not-is_rules.true ∙ sym (ap (λ (t : Bool). not t || any (above f) (files_at c.args.set.now c.args.starts.now c.args.n)) other)

pub returns-else-not-is_rules : goal.returns-else-not-is_rules
returns-else-not-is_rules c =
    let f = file_at c.args.set.now c.args.p in
    let rules : is_rules f ≡ true = ap (ends_in (bytes ".rules")) (sym c.name_of.ensures) ∙ sym c.is_rules.ensures ∙ c.if-not-is_rules.false in
    c.any_above.ensures ∙ sym (ap (λ (t : Bool). not t || any (above f) (files_at c.args.set.now c.args.starts.now c.args.n)) rules)
