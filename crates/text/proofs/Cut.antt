-- Where an accepted text is cut after newlines that join nothing, the pieces are all accepted exactly when no jump crosses a cut.
-- Assumes nothing.
use Prim.Native.Nat.{ℕ, ◌+◌, ◌≤◌, ◌<◌}
use mathlib.Core.Path.{◌≡◌}
use mathlib.Core.Logic.{◌↔◌}
use mathlib.Core.List.{List, [], ◌∷◌, ◌++◌, map-append, append-nil}
use native.Mathlib.Omega.{arith}
use lib.ListN.{length-append}
use Rattle.text.specs.Lines.{newlines}
use Rattle.lists.specs.Lists.{All}
use Rattle.lists.specs.Checked.{ok, Placed, line_of, moved}
use Rattle.text.specs.Engine.{Engine}
use Rattle.text.specs.Reading.{read_text}
use Rattle.text.specs.Joined.{join, EndsWhole, Cuttable, Accepted, Jump, Crosses, NoCrossing, cuts, jumps}
use Rattle.text.specs.Rules.{rules_of}
use Rattle.text.specs.Laws.{Laws}
use Rattle.lists.proofs.Lists.{All-map, All-append, All-split, All_each}
use Rattle.text.proofs.Lines.{shift, shift-above, shift_below, shift_zero, shift-shift}
use Rattle.text.proofs.Settle.{Settled, settled_right, settled_shift, settled_unshift}
use Rattle.text.proofs.Texts.{Parts, read, rules-join, faultless_part, count-join, rules-from, rules-to}
use Rattle.text.proofs.Accept.{to-parts, from_parts}
use Rattle.text.proofs.Jumps.{jumps_into, jumps-append, jumps-above, settled_before, none_crosses}

-- the cuts come one after another
pub cuts_late : (ps : List (List ℕ)) (n : ℕ) → All (λ (c : ℕ). n ≤ c) (cuts n ps)
cuts_late [] n = tt
cuts_late (p ∷ []) n = tt
cuts_late (p ∷ q ∷ ps) n =
    (omega arith, All-map (λ (c : ℕ). n + newlines p ≤ c) (λ (c : ℕ). n ≤ c) (λ c h. omega arith) (cuts (n + newlines p) (q ∷ ps)) (cuts_late (q ∷ ps) (n + newlines p)))

-- a jump that starts after a cut does not cross it
not-before : (c : ℕ) (cs : List ℕ) (js : List Jump) → All (λ (j : Jump). c < j.from) js → NoCrossing cs js → NoCrossing (c ∷ cs) js
not-before c cs [] h k = tt
not-before c cs (j ∷ js) (h, hs) (k, ks) = (((λ x. omega arith), k), not-before c cs js hs ks)

fewer_cuts : (c : ℕ) (cs : List ℕ) (js : List Jump) → NoCrossing (c ∷ cs) js → NoCrossing cs js
fewer_cuts c cs [] k = tt
fewer_cuts c cs (j ∷ js) (k, ks) = (k.1, fewer_cuts c cs js ks)

module _ (E : Engine) (L : Laws E) where
  module _ (p v : List ℕ) (e : EndsWhole p) where
    -- what follows the first piece of an accepted text is accepted
    rest-parts : Parts E (p ++ v) → Parts E v
    rest-parts h = record {
      short = omega (arith, length-append p v, h.short);
      faultless = (faultless_part E L p e v h.faultless).1;
      few = omega (arith, count-join E L p e v, h.few);
      settled = settled_unshift E (newlines p) (rules_of E.reader v) (settled_right E (rules_of E.reader p) (shift (newlines p) (rules_of E.reader v)) (rw (rules-join E L p e v) at h.settled));
    }

    -- and the first piece is, if its jumps find their labels in it
    first-parts : Parts E (p ++ v) → Settled E (rules_of E.reader p) → Parts E p
    first-parts h s = record {
      short = omega (arith, length-append p v, h.short);
      faultless = (faultless_part E L p e v h.faultless).0;
      few = omega (arith, count-join E L p e v, h.few);
      settled = s;
    }

    -- the rules of the join, n lines further down
    rules_seam : (n : ℕ) → shift n (rules_of E.reader (p ++ v)) ≡ shift n (rules_of E.reader p) ++ shift (n + newlines p) (rules_of E.reader v)
    rules_seam n = rw (rules-join E L p e v, map-append (moved n) (rules_of E.reader p) (shift (newlines p) (rules_of E.reader v)), shift-shift n (newlines p) (rules_of E.reader v))

    module _ (n : ℕ) (cs : List ℕ) (late : All (λ (c : ℕ). n + newlines p ≤ c) cs) (whole : Parts E (p ++ v)) where
      abbrev xs : List (Placed E.reader.Rule)
      xs = shift n (rules_of E.reader p)

      abbrev ys : List (Placed E.reader.Rule)
      ys = shift (n + newlines p) (rules_of E.reader v)

      above : All (λ (q : Placed E.reader.Rule). n + newlines p < line_of q) ys
      above = shift-above (n + newlines p) (rules_of E.reader v) (rules-from E v)

      below : All (λ (q : Placed E.reader.Rule). line_of q ≤ n + newlines p) xs
      below = shift_below n (newlines p) (rules_of E.reader p) (rules-to E L p e)

      seam_settled : Settled E (xs ++ ys)
      seam_settled = rw (rules_seam n) at (settled_shift E n (rules_of E.reader (p ++ v)) whole.settled)

      -- of the jumps of the join: those of the first piece, and those of the rest
      first_settled : NoCrossing ((n + newlines p) ∷ cs) (jumps E (shift n (rules_of E.reader (p ++ v)))) → Settled E (rules_of E.reader p) × NoCrossing cs (jumps E ys)
      first_settled k =
          let s = All-split (λ (j : Jump). All (λ (c : ℕ). ¬ Crosses c j) ((n + newlines p) ∷ cs)) (jumps_into E xs ys) (jumps E ys) (rw (rules_seam n, jumps-append E xs ys) at k) in (
            settled_unshift E n (rules_of E.reader p) (settled_before E (n + newlines p) ys above cs xs below seam_settled s.0),
            fewer_cuts (n + newlines p) cs (jumps E ys) s.1,
          )

      none_crossing : Settled E (rules_of E.reader p) → NoCrossing cs (jumps E ys) → NoCrossing ((n + newlines p) ∷ cs) (jumps E (shift n (rules_of E.reader (p ++ v))))
      none_crossing s k =
          rw (rules_seam n, jumps-append E xs ys)
          (All-append (λ (j : Jump). All (λ (c : ℕ). ¬ Crosses c j) ((n + newlines p) ∷ cs)) (jumps_into E xs ys) (jumps E ys)
          (none_crosses E (n + newlines p) ys ((n + newlines p) ∷ cs) (omega arith, late) xs below (settled_shift E n (rules_of E.reader p) s))
          (not-before (n + newlines p) cs (jumps E ys) (jumps-above E (n + newlines p) ys above) k))

  -- n lines further down
  cut_parts : (ps : List (List ℕ)) → Cuttable ps → (n : ℕ) → Parts E (join ps) → All (Parts E) ps ↔ NoCrossing (cuts n ps) (jumps E (shift n (rules_of E.reader (join ps))))
  unfolding join
  cut_parts [] j n h = absurd j
  cut_parts (p ∷ []) j n h = (
    (λ _. All_each (λ (k : Jump). Unit {0}) (λ k. tt) (jumps E (shift n (rules_of E.reader (p ++ []))))),
    (λ _. (rw (append-nil p) at h, tt)),
  )
  cut_parts (p ∷ q ∷ ps) (e, j) n h =
      let v = join (q ∷ ps) in
      let rest = cut_parts (q ∷ ps) j (n + newlines p) (rest-parts p v e h) in
      let cs = cuts (n + newlines p) (q ∷ ps) in
      let late = cuts_late (q ∷ ps) (n + newlines p) in (
        (λ a. none_crossing p v e n cs late h a.0.settled (rest.0 a.1)),
        (λ k. let s = first_settled p v e n cs late h k in (first-parts p v e h s.0, rest.1 s.1)),
      )

  -- Where an accepted text is cut after newlines that join nothing, the pieces are all accepted exactly when no jump crosses a cut.
  pub cut_accepted : (t : List ℕ) (rs : List (Placed E.reader.Rule)) → read_text E.reader t ≡ ok rs → (ps : List (List ℕ)) → Cuttable ps → join ps ≡ t
      → All (Accepted E) ps ↔ NoCrossing (cuts 0 ps) (jumps E rs)
  cut_accepted t rs a ps j e =
      let r = read E (join ps) rs (rw (← e) at a) in
      let c = cut_parts ps j 0 r.parts in (
        (λ h. rw (r.same, ← (shift_zero (rules_of E.reader (join ps)))) (c.0 (All-map (Accepted E) (Parts E) (to-parts E) ps h))),
        (λ k. All-map (Parts E) (Accepted E) (from_parts E) ps (c.1 (rw (r.same, ← (shift_zero (rules_of E.reader (join ps)))) at k))),
      )
