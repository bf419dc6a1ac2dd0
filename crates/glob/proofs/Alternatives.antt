-- The loops over a pattern: which alternatives match, and whether every one is well formed, from a place on.
-- Assumes nothing.
use Prim.Native.Nat.{ℕ, ◌+◌, ◌≤◌, ◌<◌}
use mathlib.Core.Path.{◌≡◌, refl, sym, ◌∙◌}
use mathlib.Core.Bool.{Bool, true, false}
use mathlib.Core.List.{List, ◌∷◌}
use Rattle.std.specs.Prelude.{Option, None, Some}
use native.Mathlib.Omega.{arith}
use native.Mathlib.Decide.{ℕ_discrete}
use borrow.Author.Tests.{ne_eqb}
use lib.Dec.{eqb}
use lib.ListN.{length, get_or, drop, drop_of_length-le}
use Rattle.lists.specs.Lists.{pick, is_some, all, any}
use Rattle.lists.specs.Runs.{span, split_at}
use Rattle.lists.specs.Items.{Item, items}
use Rattle.lists.proofs.Rest.{rest_at, get_d_any}
use Rattle.lists.proofs.Runs.{rest_of}
use Rattle.lists.proofs.Scan.{parts_behind, split-first, some-before}
use Rattle.scan.specs.Ends.{RunEnd, is_not}
use Rattle.pattern.specs.Pattern.{Element, star, one, byte, element_at, set_at, elements, takes, alternative_matches}
use Rattle.pattern.proofs.Elements.{elements_at, elements-bad}
use Rattle.glob.specs.Place.{alternative_at, matches_from, NotBar}
use Rattle.glob.specs.Sets.{set_read}
use Rattle.glob.specs.declared.SetRead.{SetRead}
use Rattle.glob.proofs.Place.{alternative_on, rest-on, further}
use Rattle.glob.proofs.Sets.{set-whole}

parts : (s : List ℕ) (a : ℕ) → split_at 124 (drop a s) ≡ alternative_at s a ∷ parts_behind 124 (span (is_not 124) (drop a s)).rest
unfolding alternative_at
parts s a = split-first 124 (drop a s)

-- ---- matching

-- some alternative from a place on matches
abbrev pub any_from : List ℕ → ℕ → List ℕ → Bool
any_from s a v = any (λ l. alternative_matches l v) (split_at 124 (drop a s))

module _ (s : List ℕ) (a : ℕ) (v : List ℕ) where
  pub any_here : matches_from s a v ≡ true → any_from s a v ≡ true
  any_here h = rw (parts s a, h)

  module _ (e : ℕ) (end : RunEnd (is_not 124) s a e) (n : matches_from s a v ≡ false) where
    pub any-behind : e < length s → any_from s a v ≡ any_from s (e + 1) v
    any-behind h = rw (parts s a, n, rest_of (is_not 124) s a, ← end.place, rest_at s e h)

    pub any_none : length s ≤ e → any_from s a v ≡ false
    any_none h = rw (parts s a, n, rest_of (is_not 124) s a, ← end.place, drop_of_length-le s {i = e} h)

-- ---- well-formedness

-- every alternative from a place on is well formed
abbrev pub sound_from : List ℕ → ℕ → Bool
sound_from s p = all (λ l. is_some (elements l)) (split_at 124 (drop p s))

module _ (s : List ℕ) (p : ℕ) where
  pub sound-end : length s ≤ p → sound_from s p ≡ true
  unfolding split_at elements items
  sound-end h = rw (drop_of_length-le s {i = p} h)

  sound_bar : p < length s → get_or s p 0 ≡ 124 → sound_from s p ≡ sound_from s (p + 1)
  unfolding split_at elements items
  sound_bar h e = rw (rest_at s p h, e)

  -- one element, which takes n bytes beyond its first
  sound_element : NotBar s p → (e : Element) (n q : ℕ) → q ≡ p + 1 + n → n ≤ length (alternative_at s (p + 1)) → p + 1 ≤ length s
      → element_at (get_or s p 124) (alternative_at s (p + 1)) ≡ Some (record { value = e; more = n }) → sound_from s p ≡ sound_from s q
  sound_element b e n q z k i h =
      let f = further s (p + 1) n q z i k in
      let o : is_some (elements (alternative_at s p)) ≡ is_some (elements (alternative_at s q))
      = rw (alternative_on s p b, elements_at (get_or s p 124) (alternative_at s (p + 1)) (record { value = e; more = n }) h, f.alternative) (some-before e (elements (alternative_at s q))) in
      rw (parts s p, parts s q, o, rest-on s p b, f.rest)

  -- a bar, or an element of one byte
  pub sound-on : p < length s → (get_or s p 0 ≡ 91 → ⊥) → sound_from s p ≡ sound_from s (p + 1)
  sound-on h n = go (ℕ_discrete (get_or s p 0) 124)
    where
      g : get_or s p 0 ≡ get_or s p 124
      g = get_d_any s p 0 124 h

      by : (e : Element) → NotBar s p → element_at (get_or s p 124) (alternative_at s (p + 1)) ≡ Some (record { value = e; more = 0 }) → sound_from s p ≡ sound_from s (p + 1)
      by e b k = sound_element b e 0 (p + 1) (omega arith) (omega arith) (omega arith) k

      sign : (t u : Bool) → eqb (get_or s p 124) 42 ≡ t → eqb (get_or s p 124) 63 ≡ u → NotBar s p → sound_from s p ≡ sound_from s (p + 1)
      sign true u i j b = by star b (rw i)
      sign false true i j b = by one b (rw (i, j))
      sign false false i j b = by (byte (get_or s p 124)) b (rw (i, j, ne_eqb (get_or s p 124) 91 (λ z. n (g ∙ z))))

      go : Dec (get_or s p 0 ≡ 124) → sound_from s p ≡ sound_from s (p + 1)
      go (yes e) = sound_bar h e
      go (no m) = sign (eqb (get_or s p 124) 42) (eqb (get_or s p 124) 63) refl refl (λ z. m (g ∙ z))

-- what the answer to a set says of the rest of the pattern
pub record SoundOn (s : List ℕ) (p q : ℕ) : Type 0 where
  pub forward : p < q
  pub inside : q ≤ length s
  pub same : sound_from s p ≡ sound_from s q

abbrev pub SoundIs : Option SetRead → List ℕ → ℕ → Type 0
SoundIs (Some r) s p = SoundOn s p r.next
SoundIs None s p = sound_from s p ≡ false

pub sound-set : (s : List ℕ) (p x : ℕ) → p < length s → get_or s p 0 ≡ 91 → SoundIs (set_read (set_at (alternative_at s (p + 1))) x (p + 1)) s p
sound-set s p x h b = go (set_at (alternative_at s (p + 1))) refl
  where
    here : get_or s p 124 ≡ 91
    here = sym (get_d_any s p 0 124 h) ∙ b

    n : NotBar s p
    n z = absurd (omega (arith, here))

    go : (o : Option (Item Element)) → set_at (alternative_at s (p + 1)) ≡ o → SoundIs (set_read o x (p + 1)) s p
    go None e =
        let k : element_at (get_or s p 124) (alternative_at s (p + 1)) ≡ None = rw here e in
        rw (parts s p, alternative_on s p n, elements-bad (get_or s p 124) (alternative_at s (p + 1)) k)
    go (Some i) e =
        let k : element_at (get_or s p 124) (alternative_at s (p + 1)) ≡ Some i = rw here e in
        let m = (set-whole (alternative_at s (p + 1)) i e).inside in
        record {
          forward = omega arith;
          inside = (further s (p + 1) i.more (p + 1 + i.more) refl (omega arith) m).inside;
          same = sound_element s p n i.value i.more (p + 1 + i.more) refl m (omega arith) k;
        }
