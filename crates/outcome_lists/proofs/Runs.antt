-- Runs in the target, and a row emptied.
-- Assumes nothing.
use Prim.Native.Nat.{ℕ, ◌+◌, ◌-◌, ◌≤◌, ◌<◌}
use mathlib.Core.Path.{◌≡◌, refl, sym, ap, ◌∙◌, subst}
use mathlib.Core.Bool.{Bool, true, false}
use mathlib.Core.List.{List, [], ◌∷◌, ◌++◌, append-nil}
use native.Mathlib.Omega.{arith}
use borrow.Author.Tests.{lt-ltb, le-ltb}
use lib.ListN.{length}
use Rattle.lists.specs.Lists.{cat}
use Rattle.lists.specs.Checked.{Checked, refused, ok, Holds}
use Rattle.lists.specs.Refusal.{Refusal, list_full}
use Rattle.lists.specs.Sizes.{fullest_outcome}
use Rattle.lists.proofs.Moves.{ap_at}
use Rattle.bits.specs.Bits.{number_at}
use Rattle.bits.specs.Fields.{bit}
use Rattle.outcome.specs.State.{State, Run, Runs, Good, ok_run, enc_run}
use Rattle.outcome.specs.Change.{with_runs}
use Rattle.outcome.specs.Edits.{append}
use Rattle.outcome.proofs.Edits.{add-run, empty_entries, empty_runs}
use Rattle.outcome.proofs.Change.{links_good, properties_good, tags_good, runs_good}
use Rattle.outcome_target.specs.Layout.{start_of, end_of, count_place, count_width, Rising}
use Rattle.outcome_target.specs.Held.{Held}
use Rattle.outcome_target.specs.declared.Layout.{Layout}
use Rattle.outcome_target.specs.declared.Section.{Section}
use Rattle.outcome_target.specs.declared.Section.TheVariants as section
use Rattle.outcome_target.proofs.Facts.{held-rising, held-size}
use Rattle.outcome_target.proofs.Rows.{RowOf, links-row, properties-row, tags-row, runs-row, row-end, row_count, start-end}
use Rattle.row_edits.specs.Edits.{encoded_run, Grown, Cut}
use Rattle.row_edits.proofs.Held.{Room, grown_room, grown_held, cut_held}
use Rattle.outcome_lists.specs.Lists.{emptied, run_of}

-- ---- at the end

module _ {A : Type 0} (most : ℕ) (x : A) (xs : List A) where
  pub append_last : length xs < most → append most x xs ≡ ok (xs ++ (x ∷ []))
  append_last k = rw (lt-ltb (length xs) most k, append)

  pub append_full : most ≤ length xs → append most x xs ≡ refused list_full
  append_full k = rw (le-ltb (length xs) most k, append)

-- ---- runs

module _ (n : ℕ) (l : List ℕ) (lay : Layout) (s : State) (w : Held n l lay s) (b : Bool) (p : ℕ) (x : List ℕ) (sound : ok_run n (run_of b p x) ≡ true) where
  run_good : length s.runs < 16 → Good n (with_runs s (s.runs ++ (run_of b p x ∷ [])))
  run_good k =
      runs_good n s w.good (s.runs ++ (run_of b p x ∷ []))
      (subst (Holds (Runs n)) (append_last 16 (run_of b p x) s.runs k) (add-run n (run_of b p x) s.runs sound w.good.runs))

  pub run_room : length s.runs < 16 → Room lay (length l) (length (enc_run (run_of b p x)))
  run_room k = grown_room runs-row n l lay s w (run_of b p x) (run_good k)

  pub run_grown : (count i : ℕ) → count ≡ number_at l 83 5 → length s.runs < 16 → i ≡ bit b → (l' : List ℕ) (lay' : Layout) → length l' ≡ length l
      → Grown l lay section.Runs (count + 1) (encoded_run i p x) l' lay' → Held n l' lay' (with_runs s (s.runs ++ (run_of b p x ∷ [])))
  run_grown count i e k f l' lay' same g =
      grown_held runs-row n l lay s w l' lay' same (run_of b p x) (count + 1) (ap (λ (j : ℕ). j + 1) (e ∙ row_count runs-row n l lay s w))
      (subst (λ (j : ℕ). Grown l lay section.Runs (count + 1) (encoded_run j p x) l' lay') f g) (run_good k)

-- ---- a row emptied

module _ (n : ℕ) (l : List ℕ) (lay : Layout) (s : State) (w : Held n l lay s) where
  row-emptied : {A : Type 0} {part : Section} {enc : A → List ℕ} {list : State → List A} {anew : State → List A → State} → RowOf A part enc list anew
      → Good n (anew s []) → (l' : List ℕ) (lay' : Layout) → length l' ≡ length l → Cut l lay part (start_of lay part) (end_of lay part - start_of lay part) 0 l' lay' → Held n l' lay' (anew s [])
  row-emptied {A} {part} {enc} {list} {anew} T good l' lay' same c =
      cut_held T n l lay s w l' lay' same [] (list s) [] (start_of lay part) (end_of lay part - start_of lay part) 0 (sym (append-nil (list s))) (omega arith)
      (omega (arith, row-end T n l lay s w)) refl c good

  pub section_emptied : (part : Section) (l' : List ℕ) (lay' : Layout) → length l' ≡ length l → Cut l lay part (start_of lay part) (end_of lay part - start_of lay part) 0 l' lay' → Held n l' lay' (emptied part s)
  section_emptied section.Links = row-emptied links-row (links_good n s w.good [] (empty_entries _ _))
  section_emptied section.Properties = row-emptied properties-row (properties_good n s w.good [] (record { few = omega arith; each = refl; apart = refl }))
  section_emptied section.Tags = row-emptied tags-row (tags_good n s w.good [] (empty_entries _ _))
  section_emptied section.Runs = row-emptied runs-row (runs_good n s w.good [] (empty_runs n))

-- what a cut of a whole row asks
pub record Whole (lay : Layout) (part : Section) (room : ℕ) : Type 0 where
  pub rising : Rising lay
  pub within : start_of lay part ≤ end_of lay part
  pub end : lay.end ≤ room
  pub most : lay.end ≤ fullest_outcome

pub whole : (n : ℕ) (l : List ℕ) (lay : Layout) (s : State) → Held n l lay s → (part : Section) → Whole lay part (length l)
whole n l lay s w part =
    let r = held-rising n l lay s w in
    record { rising = r; within = (start-end lay part r).0; end = (held-size n l lay s w).1; most = (held-size n l lay s w).0 }
