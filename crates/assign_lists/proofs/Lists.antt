-- Entries of links, tags and runs by the operator, and the whole of an assignment to TAG and to RUN.
-- Assumes nothing.
use Prim.Native.Nat.{ℕ, ◌≤◌}
use mathlib.Core.Path.{◌≡◌, refl, sym, subst}
use mathlib.Core.Bool.{Bool, true, false}
use mathlib.Core.List.{List, [], ◌∷◌}
use Rattle.std.specs.Prelude.{Option, Some}
use native.Mathlib.Omega.{arith}
use lib.ListN.{length}
use borrow.Author.Tests.{le-leb}
use Rattle.lists.proofs.Lists.{empty_list}
use Rattle.lists.specs.Lists.{is_empty}
use Rattle.lists.specs.Bytes.{clean, ok_text}
use Rattle.lists.specs.Checked.{Checked, ok, ◌>>=◌}
use Rattle.lists.specs.Refusal.{Refusal}
use Rattle.lists.specs.Sizes.{most_tag, most_value, most_chain, most_runs}
use Rattle.template.specs.Template.{well_formed}
use Rattle.rules.specs.Key.{Op}
use Rattle.rules.specs.Pair.{Pair, is_builtin}
use Rattle.keys.specs.Table.{operator_of}
use Rattle.keys.specs.declared.Operator.{Operator}
use Rattle.keys.specs.declared.Operator.TheVariants as operator
use Rattle.outcome.specs.State.{State, Run, ok_tag, ok_run}
use Rattle.outcome.specs.Change.{with_tags, with_runs}
use Rattle.outcome.specs.Edits.{add_entry, remove_entry, append}
use Rattle.outcome_target.specs.Held.{Changed, Left, Edited, EditedIf}
use Rattle.outcome_target.specs.Texts.{most_of, texts_in, with_texts}
use Rattle.outcome_target.specs.declared.Layout.{Layout}
use Rattle.outcome_target.specs.declared.Section.TheVariants.{Tags, Runs}
use Rattle.outcome_target.specs.declared.Texts.{Texts}
use Rattle.outcome_target.specs.declared.Texts.TheVariants as texts
use Rattle.outcome_lists.specs.Lists.{run_of}
use Rattle.outcome_fields.specs.Fields.{shut}
use Rattle.outcome_fields.specs.declared.Closable.TheVariants as closable
use Rattle.engine.specs.Assign.{is_remove, closing, change_entry, change_tags, tagged, change_runs, queued}
use Rattle.assign_operators.specs.Begun.{begun}
use Rattle.assign_operators.proofs.Operators.{begun-tags, begun-runs}
use Rattle.assign_lists.specs.Lists.{queued_runs}

some_list : (x : List ℕ) → (length x ≡ 0 → ⊥) → is_empty x ≡ false
some_list [] h = absurd (h refl)
some_list (b ∷ x) h = refl

text-ok : (most : ℕ) (x : List ℕ) → (length x ≡ 0 → ⊥) → length x ≤ most → clean x ≡ true → ok_text most x ≡ true
text-ok most [] n h c = absurd (n refl)
text-ok most (b ∷ x) n h c = rw (le-leb 1 (length (b ∷ x)) (omega arith), le-leb (length (b ∷ x)) most h) c

-- ---- one entry

not-removed : (o : Op) → is_remove o ≡ false → (most : ℕ) (x : List ℕ) (xs : List (List ℕ)) → change_entry o most x xs ≡ add_entry most x xs
unfolding change_entry
not-removed o e most x xs = rw (e, change_entry)

pub kept_on : (o : Operator) → (o ≡ operator.Remove → ⊥) → is_remove (operator_of o) ≡ false
kept_on operator.Remove h = absurd (h refl)
kept_on operator.Equal h = refl
kept_on operator.Unequal h = refl
kept_on operator.Assign h = refl
kept_on operator.Add h = refl
kept_on operator.Final h = refl

module _ (list : Texts) (x l : List ℕ) (lay : Layout) (l' : List ℕ) (o : Operator) where
  pub entry-removed : (lay' : Layout) → o ≡ operator.Remove → Changed (λ s. with_texts list s (remove_entry x (texts_in list s))) l lay l' lay'
      → Edited (with_texts list) (λ s. change_entry (operator_of o) (most_of list) x (texts_in list s)) l lay l' (Some lay')
  unfolding change_entry
  entry-removed lay' q h = rw q (λ n s k. (remove_entry x (texts_in list s), refl, h n s k))

  pub entry_added : (r : Option Layout) → is_remove (operator_of o) ≡ false → Edited (with_texts list) (λ s. add_entry (most_of list) x (texts_in list s)) l lay l' r
      → Edited (with_texts list) (λ s. change_entry (operator_of o) (most_of list) x (texts_in list s)) l lay l' r
  entry_added r e h = λ n s k. subst (λ (c : Checked Refusal (List (List ℕ))). Left n (with_texts list s) c l' r) (sym (not-removed (operator_of o) e (most_of list) x (texts_in list s))) (h n s k)

-- ---- TAG

pub tag_ok : (x : List ℕ) → (length x ≡ 0 → ⊥) → length x ≤ most_tag → clean x ≡ true → ok_tag x ≡ true
tag_ok x n h c = text-ok most_tag x n h c

module _ (o : Op) (v l : List ℕ) (lay : Layout) where
  pub tags-kept : length v ≡ 0 → Edited with_tags (λ s. change_tags o v s.tags) l lay l (Some lay)
  unfolding change_tags
  tags-kept e = λ n s h. (s.tags, rw (empty_list v e, change_tags), h)

  pub tags-changed : (l' : List ℕ) (r : Option Layout) → (length v ≡ 0 → ⊥) → Edited with_tags (λ s. change_entry o (most_of texts.Tags) v s.tags) l lay l' r
      → Edited with_tags (λ s. change_tags o v s.tags) l lay l' r
  unfolding change_tags
  tags-changed l' r e h = λ n s k.
      let q : change_tags o v s.tags ≡ change_entry o (most_of texts.Tags) v s.tags = rw (some_list v e, change_tags) in
      subst (λ (c : Checked Refusal (List (List ℕ))). Left n (with_tags s) c l' r) (sym q) (h n s k)

pub tag_whole : (o : Op) (v : List ℕ) (s : State) (p : Pair) → p.op ≡ o → p.value ≡ v
    → (change_tags o v (begun Tags o s).tags >>= λ x. ok (closing o (shut closable.Tags) (with_tags (begun Tags o s) x))) ≡ tagged p s
unfolding tagged
tag_whole o v s p e f = rw (begun-tags o s, ← e, ← f)

-- ---- RUN

pub run_ok : (n place : ℕ) (builtin : Bool) (v : List ℕ) → (length v ≡ 0 → ⊥) → place ≤ most_chain → clean v ≡ true → length v ≤ most_value → well_formed v ≡ true → place ≤ n
    → ok_run n (run_of builtin place v) ≡ true
run_ok n place builtin v e m c h w k = rw (le-leb place most_chain m, le-leb place n k, text-ok most_value v e h c) w

module _ (builtin : Bool) (place : ℕ) (v l : List ℕ) (lay : Layout) where
  pub runs-kept : length v ≡ 0 → EditedIf (λ n. place ≤ n) with_runs (λ s. queued_runs builtin place v s.runs) l lay l (Some lay)
  runs-kept e = λ n s h k. (s.runs, rw (empty_list v e, queued_runs), h)

  pub runs-changed : (l' : List ℕ) (r : Option Layout) → (length v ≡ 0 → ⊥) → place ≤ most_chain → clean v ≡ true → length v ≤ most_value → well_formed v ≡ true
      → EditedIf (λ n. ok_run n (run_of builtin place v) ≡ true) with_runs (λ s. append most_runs (run_of builtin place v) s.runs) l lay l' r
      → EditedIf (λ n. place ≤ n) with_runs (λ s. queued_runs builtin place v s.runs) l lay l' r
  runs-changed l' r e m c z w h = λ n s k i.
      let q : queued_runs builtin place v s.runs ≡ append most_runs (run_of builtin place v) s.runs = rw (some_list v e, queued_runs) in
      subst (λ (b : Checked Refusal (List Run)). Left n (with_runs s) b l' r) (sym q) (h n s k (run_ok n place builtin v e m c z w i))

pub run-whole : (o : Op) (builtin : Bool) (place : ℕ) (v : List ℕ) (s : State) (p : Pair) → p.op ≡ o → p.value ≡ v → is_builtin p ≡ builtin
    → (queued_runs builtin place v (begun Runs o s).runs >>= λ x. ok (closing o (shut closable.Runs) (with_runs (begun Runs o s) x))) ≡ queued place p s
unfolding queued change_runs
run-whole o builtin place v s p e f g = rw (begun-runs o s, ← e, ← f, ← g)
