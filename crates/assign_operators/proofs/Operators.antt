-- What stands around the change of a key, by its operator.
-- Assumes nothing.
use Prim.Native.Nat.{ℕ}
use mathlib.Core.Path.{◌≡◌, refl, sym, subst, ◌∙◌, ap}
use mathlib.Core.List.{List}
use Rattle.std.specs.Prelude.{Option, None, Some, Ok, Err}
use Rattle.lists.specs.Checked.{Checked, ok, ◌>>=◌}
use Rattle.lists.specs.Refusal as refusal
use Rattle.rules.specs.Key.{Op, equal, unequal, assign, add, remove, final}
use Rattle.keys.specs.Table.{operator_of}
use Rattle.keys.specs.declared.Operator.{Operator}
use Rattle.keys.specs.declared.Operator.TheVariants as operator
use Rattle.refusals.specs.declared.Refusal.TheVariants.{ListFull}
use Rattle.outcome.specs.State.{State}
use Rattle.outcome.specs.Change.{with_links, with_tags, with_runs}
use Rattle.outcome_target.specs.Held.{Changed, Left}
use Rattle.outcome_target.specs.declared.Layout.{Layout}
use Rattle.outcome_target.specs.declared.Section.{Section}
use Rattle.outcome_target.specs.declared.Section.TheVariants.{Links, Tags, Runs}
use Rattle.outcome_fields.specs.Fields.{shut, Rewritten}
use Rattle.outcome_fields.specs.declared.Closable.{Closable}
use Rattle.outcome_lists.specs.Lists.{emptied}
use Rattle.engine.specs.Assign.{kept, closing}
use Rattle.records.specs.Records.{Says}
use Rattle.assign_operators.specs.Begun.{begun}

-- ---- before it

module _ (l : List ℕ) (lay : Layout) (section : Section) (o : Operator) where
  pub begun-emptied : (l' : List ℕ) (lay' : Layout) → (p : Operator) → o ≡ p → begun section (operator_of p) ≡ emptied section
      → Changed (emptied section) l lay l' lay' → Changed (begun section (operator_of o)) l lay l' lay'
  begun-emptied l' lay' p q e h = rw (q, e) h

  pub begun_kept : (p : Operator) → o ≡ p → begun section (operator_of p) ≡ (λ s. s) → Changed (begun section (operator_of o)) l lay l lay
  begun_kept p q e = rw (q, e) (λ n s h. h)

pub begun-links : (o : Op) (s : State) → begun Links o s ≡ with_links s (kept o s.links)
begun-links assign s = refl
begun-links final s = refl
begun-links equal s = refl
begun-links unequal s = refl
begun-links add s = refl
begun-links remove s = refl

pub begun-tags : (o : Op) (s : State) → begun Tags o s ≡ with_tags s (kept o s.tags)
begun-tags assign s = refl
begun-tags final s = refl
begun-tags equal s = refl
begun-tags unequal s = refl
begun-tags add s = refl
begun-tags remove s = refl

pub begun-runs : (o : Op) (s : State) → begun Runs o s ≡ with_runs s (kept o s.runs)
begun-runs assign s = refl
begun-runs final s = refl
begun-runs equal s = refl
begun-runs unequal s = refl
begun-runs add s = refl
begun-runs remove s = refl

-- ---- behind it

module _ (l : List ℕ) (key : Closable) (o : Operator) where
  pub closed-final : (l' : List ℕ) → o ≡ operator.Final → Rewritten (closing final (shut key)) l l' → Rewritten (closing (operator_of o) (shut key)) l l'
  closed-final l' q h = rw q h

  pub closed-not : (p : Operator) → o ≡ p → closing (operator_of p) (shut key) ≡ (λ s. s) → Rewritten (closing (operator_of o) (shut key)) l l
  closed-not p q e = rw (q, e) (λ n lay s h. h)

-- what an edit left, and the key closed behind it by the operator: the whole change of a state
module _ {A : Type 0} (n : ℕ) (put : A → State) (c : Checked refusal.Refusal A) (l : List ℕ) (r : Option Layout) (h : Left n put c l r) (o : Op) (key : Closable)
    (whole : Checked refusal.Refusal State) (w : (c >>= λ x. ok (closing o (shut key) (put x))) ≡ whole) where
  pub done-says : (lay : Layout) → r ≡ Some lay → (l' : List ℕ) → Rewritten (closing o (shut key)) l l' → Says n l' (Ok lay) whole
  done-says lay q l' k =
      let (x, e, z) = subst (Left n put c l) q h in
      (closing o (shut key) (put x), sym w ∙ ap (λ (b : Checked refusal.Refusal A). b >>= λ x. ok (closing o (shut key) (put x))) e, k n lay (put x) z)

  pub full_says : r ≡ None → Says n l (Err ListFull) whole
  full_says q =
      let e = subst (Left n put c l) q h in
      sym w ∙ ap (λ (b : Checked refusal.Refusal A). b >>= λ x. ok (closing o (shut key) (put x))) e
