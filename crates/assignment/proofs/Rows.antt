-- The assignments of a rule, row by row.
-- Assumes nothing.
use Prim.Native.Nat.{ℕ, ◌+◌, ◌-◌, ◌≤◌, ◌<◌}
use mathlib.Core.Path.{◌≡◌, refl, sym, ◌∙◌, ap, subst}
use mathlib.Core.Bool.{true, false}
use mathlib.Core.List.{List, [], ◌∷◌}
use Rattle.std.specs.Prelude.{Result, Ok, Err}
use native.Mathlib.Omega.{arith}
use lib.ListN.{length}
use Rattle.lists.specs.Checked.{Checked, refused, ok, ◌>>=◌}
use Rattle.lists.specs.Refusal as refusal
use Rattle.rules.specs.Key.{is_match}
use Rattle.rules.specs.Pair.{Pair}
use Rattle.refusals.specs.Refusals.{refusal_of}
use Rattle.refusals.specs.declared.Refusal.{Refusal}
use Rattle.table.specs.Table.{entry_of, pairs_from, Got, Segment}
use Rattle.table.specs.declared.Entry.{Entry}
use Rattle.table.proofs.Pairs.{pairs_end, rows-here, entry_in}
use Rattle.device.specs.Device.{Device, chain}
use Rattle.device_lookup.specs.declared.Chain.{Chain}
use Rattle.outcome.specs.State.{State}
use Rattle.outcome_target.specs.declared.Layout.{Layout}
use Rattle.engine.specs.Assign as assign
use Rattle.engine.specs.Assign.{assigned, assign_pair, assign_all}
use Rattle.engine.specs.Step.{begun}
use Rattle.records.specs.Records.{Denotes, Ready}
use Rattle.assign_env.specs.declared.Escape.TheVariants.{Unset}
use Rattle.assign_key.specs.Keys.{work_of, WorkSays}
use Rattle.assign_key.specs.declared.Work.{Work}
use Rattle.assignment.specs.Assignment.{Assignables, RuleRows, Readable, PairAssigned, AllSays, AllAssigned}

-- ---- one pair

module _ (d : Device) (place : ℕ) (p : Pair) (w : assign.Work) where
  pair_matches : is_match p.op ≡ true → assign_pair d place p w ≡ ok w
  unfolding assign_pair
  pair_matches e = rw (e, assign_pair)

  pair_assigns : is_match p.op ≡ false → assigned p.key d place p w ≡ assign_pair d place p w
  unfolding assign_pair
  pair_assigns e = rw (e, assign_pair)

  pub pair_says : is_match p.op ≡ false → (n : ℕ) (t : List ℕ) (x : Result Work Refusal) → WorkSays n t x (assigned p.key d place p w) → WorkSays n t x (assign_pair d place p w)
  pair_says e n t x h = subst (WorkSays n t x) (pair_assigns e) h

-- ---- one row after the other

module _ (v r : List ℕ) (from to : ℕ) (t₀ dev : List ℕ) (places : Chain) (place : ℕ) (lay₀ : Layout) where
  -- the pairs from a row on
  abbrev pairs : ℕ → List Pair
  pairs i = pairs_from v r i (to - i)

  -- they give what all pairs give
  pub record Going (t : List ℕ) (w : Work) (i : ℕ) : Type 0 where
    pub room : length t ≡ length t₀
    pub ordered : i ≤ to
    pub sound : Assignables (pairs i)
    pub going : (d : Device) (s₀ : State) → Denotes dev places t₀ lay₀ d s₀
        → (s : State) × Denotes dev places t w.layout d s × (assign_all d place (pairs i) (work_of s w.escape) ≡ assign_all d place (pairs from) (begun s₀))

  pub going_start : RuleRows v r from to → Going t₀ (record { layout = lay₀; escape = Unset }) from
  going_start h = record { room = refl; ordered = h.ordered; sound = h.sound; going = λ d s₀ k. (s₀, k, refl) }

  module _ (t : List ℕ) (w : Work) (i : ℕ) (g : Going t w i) where
    pub still_ready : Ready dev places t₀ lay₀ → Ready dev places t w.layout
    still_ready (d, s₀, h) = let (s, z, e) = g.going d s₀ h in (d, s, z)

    -- behind the last row
    pub going_end : to ≤ i → AllAssigned v r from to dev places place t₀ lay₀ t (Ok w.layout)
    unfolding assign_all
    going_end h d s₀ k =
        let (s, z, e) = g.going d s₀ k in
        (work_of s w.escape, sym e ∙ ap (λ (ps : List Pair). assign_all d place ps (work_of s w.escape)) (pairs_end v r i to h), z.held)

    module _ (e : Entry) (got : Got r i e) (h : i < to) where
      sound-here : Assignables (entry_of v e ∷ pairs (i + 1))
      sound-here = subst Assignables (rows-here v r i to e got h) g.sound

      pub readable : Segment v r to → Readable v e
      readable s = (entry_in v r i to e got h s, sound-here.0)

      all-next : (d : Device) (u : assign.Work) → assign_all d place (pairs i) u ≡ (assign_pair d place (entry_of v e) u >>= λ u'. assign_all d place (pairs (i + 1)) u')
      unfolding assign_all
      all-next d u = ap (λ (ps : List Pair). assign_all d place ps u) (rows-here v r i to e got h)

      -- a match leaves all as it is
      pub going_past : is_match (entry_of v e).op ≡ true → Going t w (i + 1)
      going_past m = record {
        room = g.room;
        ordered = omega arith;
        sound = sound-here.1;
        going = λ d s₀ k.
            let (s, z, b) = g.going d s₀ k in
            let past = ap (λ (o : Checked refusal.Refusal assign.Work). o >>= λ u'. assign_all d place (pairs (i + 1)) u') (pair_matches d place (entry_of v e) (work_of s w.escape) m) in
            (s, z, sym (all-next d (work_of s w.escape) ∙ past) ∙ b);
      }

      module _ (t' : List ℕ) (x : Result Work Refusal) (c : PairAssigned v e dev places place t w t' x) where
        says : (y : Result Work Refusal) → x ≡ y → (d : Device) (s : State) → Denotes dev places t w.layout d s → WorkSays (length (chain d)) t' y (assign_pair d place (entry_of v e) (work_of s w.escape))
        says y q d s z = subst (λ (x : Result Work Refusal). WorkSays (length (chain d)) t' x (assign_pair d place (entry_of v e) (work_of s w.escape))) q (c d s z)

        pub going_on : (w' : Work) → x ≡ Ok w' → length t' ≡ length t → Going t' w' (i + 1)
        going_on w' q u = record {
          room = u ∙ g.room;
          ordered = omega arith;
          sound = sound-here.1;
          going = λ d s₀ k.
              let (s, z, b) = g.going d s₀ k in
              let (s', f, y) = says (Ok w') q d s z in (
                s',
                record { device = z.device; chained = z.chained; held = y },
                sym (all-next d (work_of s w.escape) ∙ ap (λ (o : Checked refusal.Refusal assign.Work). o >>= λ u'. assign_all d place (pairs (i + 1)) u') f) ∙ b,
              );
        }

        pub going_refused : (y : Refusal) → x ≡ Err y → AllAssigned v r from to dev places place t₀ lay₀ t' (Err y)
        going_refused y q d s₀ k =
            let (s, z, b) = g.going d s₀ k in
            let f : assign_pair d place (entry_of v e) (work_of s w.escape) ≡ refused (refusal_of y) = says (Err y) q d s z in
            sym b ∙ all-next d (work_of s w.escape) ∙ ap (λ (o : Checked refusal.Refusal assign.Work). o >>= λ u'. assign_all d place (pairs (i + 1)) u') f
