-- The join of accepted texts is accepted.
-- Assumes nothing.
use Prim.Native.Nat.{ℕ, suc, ◌+◌, ◌≤◌}
use mathlib.Core.Path.{◌≡◌, refl, subst}
use mathlib.Core.Bool.{Bool, true, false, ◌||◌}
use mathlib.Core.Logic.{inl, inr}
use mathlib.Core.List.{List, [], ◌∷◌, ◌++◌, map, append-nil}
use native.Mathlib.Omega.{arith}
use lib.ListN.{length}
use Rattle.lists.specs.Checked.{Placed, line, in_place}
use Rattle.text.specs.Lines.{blank, is_slash, stage_of, lines_in, numbered, lines, newlines}
use Rattle.text.specs.Engine.{Engine, LineRead, skip, fault, rule}
use Rattle.lists.specs.Lists.{All}
use Rattle.lists.specs.Sizes.{most_text, most_rules}
use Rattle.text.specs.Reading.{rule_count, lent_by, read_lent, reads}
use Rattle.text.specs.Rules.{rules_of}
use Rattle.text.specs.Joined.{join, joins_next, EndsLine, EndsWhole, Joinable, Cuttable, Accepted}
use Rattle.text.specs.Laws.{Laws}
use Rattle.lists.proofs.Lists.{All-map}
use Rattle.text.proofs.Lines.{shift, has_open, open_end, open_newline}
use Rattle.text.proofs.Collect.{Faultless}
use Rattle.text.proofs.Settle.{Settled, settled_append, settled_shift}
use Rattle.text.proofs.Texts.{Parts, read_ok, read, rules-join, faultless_join}

module _ (E : Engine) where
  pub to-parts : (t : List ℕ) → Accepted E t → Parts E t
  to-parts t (rs, e) = (read E t rs e).parts

  pub from_parts : (t : List ℕ) → Parts E t → Accepted E t
  from_parts t h = (rules_of E.reader t, read_ok E t h)

  -- ---- an accepted text has no open join, so a newline at its end joins nothing

  tail_faultless : (p : Placed (LineRead E.reader.Rule)) (ps : List (Placed (LineRead E.reader.Rule))) → Faultless (p ∷ ps) → Faultless ps
  tail_faultless (line n skip) ps h = h
  tail_faultless (line n (fault f)) ps h = absurd h
  tail_faultless (line n (rule r)) ps h = h

  lent_open : (n : ℕ) (l : List ℕ) (ls : List (Placed (LineRead E.reader.Rule))) (t : Bool) → t ≡ true → Faultless (line n (lent_by E.reader t l) ∷ ls) → ⊥
  lent_open n l ls true e h = h
  lent_open n l ls false e h = let z : ◌≡◌ {A = ℕ} 0 1 = cc in omega arith

  open_fault : (n : ℕ) (ls : List (List ℕ)) → has_open blank ls ≡ true → Faultless (map (in_place (read_lent E.reader)) (numbered n ls)) → ⊥
  unfolding has_open numbered read_lent
  open_fault n [] e h = let z : ◌≡◌ {A = ℕ} 0 1 = cc in omega arith
  open_fault n (l ∷ ls) e h =
      at (is_slash (stage_of blank l)) refl e
      (λ k. open_fault (suc (newlines l + n)) ls k (tail_faultless (line n (read_lent E.reader l)) (map (in_place (read_lent E.reader)) (numbered (suc (newlines l + n)) ls)) h))
    where
      at : (t : Bool) → is_slash (stage_of blank l) ≡ t → (t || has_open blank ls) ≡ true → (has_open blank ls ≡ true → ⊥) → ⊥
      at true q k f = lent_open n l (map (in_place (read_lent E.reader)) (numbered (suc (newlines l + n)) ls)) (is_slash (stage_of blank l)) q h
      at false q k f = f k

  -- an accepted text does not end in a backslash of a line that is no comment, nor in that and a newline
  pub no_open : (t : List ℕ) → Parts E t → is_slash (stage_of blank t) ≡ false
  unfolding lines
  no_open t p = at (is_slash (stage_of blank t)) refl
    where
      at : (b : Bool) → is_slash (stage_of blank t) ≡ b → b ≡ false
      at false e = refl
      at true e = absurd (open_fault 1 (lines_in blank t) (open_end blank t e) p.faultless)

  pub no_open_newline : (u : List ℕ) → Parts E (u ++ (10 ∷ [])) → is_slash (stage_of blank u) ≡ false
  unfolding lines
  no_open_newline u p = at (is_slash (stage_of blank u)) refl
    where
      at : (b : Bool) → is_slash (stage_of blank u) ≡ b → b ≡ false
      at false e = refl
      at true e = absurd (open_fault 1 (lines_in blank (u ++ (10 ∷ []))) (open_newline blank u e) p.faultless)

  pub ends-whole : (t : List ℕ) → Parts E t → EndsLine t → EndsWhole t
  ends-whole t p (inl e) = inl e
  ends-whole t p (inr (u, e)) = inr (u, e, no_open_newline u (subst (Parts E) e p))

  pub to_cuttable : (ts : List (List ℕ)) → Joinable ts → All (Parts E) ts → Cuttable ts
  to_cuttable [] j h = j
  to_cuttable (t ∷ []) j h = tt
  to_cuttable (t ∷ u ∷ ts) (e, j) (h, hs) = (ends-whole t h e, to_cuttable (u ∷ ts) j hs)

  pub to_joinable : (ts : List (List ℕ)) → Cuttable ts → Joinable ts
  to_joinable [] j = j
  to_joinable (t ∷ []) j = tt
  to_joinable (t ∷ u ∷ ts) (inl e, j) = (inl e, to_joinable (u ∷ ts) j)
  to_joinable (t ∷ u ∷ ts) (inr (v, e, n), j) = (inr (v, e), to_joinable (u ∷ ts) j)

  module _ (L : Laws E) where
    -- no line of the join has a fault, and each of its jumps finds its label
    pub join-sound : (ts : List (List ℕ)) → Cuttable ts → All (Parts E) ts → Faultless (reads E.reader (join ts)) × Settled E (rules_of E.reader (join ts))
    unfolding join
    join-sound [] j h = absurd j
    join-sound (t ∷ []) j (h, _) = rw (append-nil t) (h.faultless, h.settled)
    join-sound (t ∷ u ∷ ts) (e, j) (h, hs) =
        let s = join-sound (u ∷ ts) j hs in (
          faultless_join E L t e (join (u ∷ ts)) h.faultless s.0,
          rw (rules-join E L t e (join (u ∷ ts)))
              (settled_append E (rules_of E.reader t) (shift (newlines t) (rules_of E.reader (join (u ∷ ts)))) h.settled (settled_shift E (newlines t) (rules_of E.reader (join (u ∷ ts))) s.1)),
        )

    -- the join of one or more accepted texts, each but the last empty or ending in a newline, is accepted if it is within 32,768 bytes and 512 rules
    pub join_accepted : (ts : List (List ℕ)) → Joinable ts → All (Accepted E) ts
        → length (join ts) ≤ most_text → rule_count (reads E.reader (join ts)) ≤ most_rules → Accepted E (join ts)
    join_accepted ts j h short few =
        let ps = All-map (Accepted E) (Parts E) to-parts ts h in
        let s = join-sound ts (to_cuttable ts j ps) ps in
        from_parts (join ts) (record { short = short; faultless = s.0; few = few; settled = s.1 })
