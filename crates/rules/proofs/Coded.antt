-- A value behind an `e` (document 02, Item 1), one law for each way that a step of reading it can go.
-- Assumes nothing.
use Prim.Native.Nat.{ℕ, zero, suc, ◌+◌, ◌≤◌}
use mathlib.Core.Path.{◌≡◌, refl, sym, ap, ◌∙◌}
use mathlib.Core.Bool.{Bool, true, false}
use mathlib.Core.List.{List, [], ◌∷◌, ◌++◌}
use Rattle.std.specs.Prelude.{Option, None, Some}
use Rattle.std.proofs.lemmas.Option.{none-some, same_Some}
use native.Mathlib.Omega.{arith}
use lib.Dec.{eqb}
use lib.ListN.{length, get_or, drop}
use borrow.Author.Tests.{eqb-true}
use Rattle.lists.specs.Lists.{pick}
use Rattle.lists.specs.Runs.{Part}
use Rattle.lists.specs.Items.{Item}
use Rattle.rules.specs.Coded.{escapes, escape_in, hex_digit, hex_byte, taking, escaped, coded_byte, put, coded_then, coded_step, coded}

-- the bytes of an escape are passed over
pub coded-skip : (k : ℕ) (bs : List ℕ) → coded k bs ≡ coded 0 (drop k bs)
unfolding coded
coded-skip zero bs = refl
coded-skip (suc k) [] = refl
coded-skip (suc k) (b ∷ bs) = coded-skip k bs

-- a mark closes
pub coded-close : (b : ℕ) (bs : List ℕ) → eqb b 34 ≡ true → coded 0 (b ∷ bs) ≡ Some (record { value = []; rest = bs })
unfolding coded
coded-close b bs h = rw h

-- a byte or an escape, and what follows it
pub coded_at : (b : ℕ) (bs : List ℕ) (i : Item ℕ) → eqb b 34 ≡ false → coded_byte b bs ≡ Some i → coded 0 (b ∷ bs) ≡ put i.value (coded 0 (drop i.more bs))
unfolding coded
coded_at b bs i h e = rw (h, e, coded-skip i.more bs)

-- an escape that is not known
pub coded-bad : (b : ℕ) (bs : List ℕ) → eqb b 34 ≡ false → coded_byte b bs ≡ None → coded 0 (b ∷ bs) ≡ None
unfolding coded
coded-bad b bs h e = rw (h, e)

-- ---- the value by the bytes between its marks

taking-more : (n : ℕ) (o : Option ℕ) (i : Item ℕ) → taking n o ≡ Some i → i.more ≡ n
taking-more n None i e = absurd (none-some i e)
taking-more n (Some b) i e = sym (ap (λ (j : Item ℕ). j.more) (same_Some _ i e))

-- an escape is read from its own bytes
escaped-here : (w u v : List ℕ) (i : Item ℕ) → escaped (w ++ u) ≡ Some i → i.more ≤ length w → escaped (w ++ v) ≡ Some i
escaped-here [] u v i e h = absurd (at (eqb (get_or u 0 0) 120) e)
  where
    at : (t : Bool) → pick t (taking 3 (hex_byte (hex_digit (get_or u 1 0)) (hex_digit (get_or u 2 0)))) (taking 1 (escape_in escapes (get_or u 0 0))) ≡ Some i → ⊥
    at true q = let m = taking-more 3 (hex_byte (hex_digit (get_or u 1 0)) (hex_digit (get_or u 2 0))) i q in omega arith
    at false q = let m = taking-more 1 (escape_in escapes (get_or u 0 0)) i q in omega arith
escaped-here (c ∷ w) u v i e h = at (eqb c 120) e (λ q. two w q)
  where
    two : (w : List ℕ) → i.more ≤ suc (length w) → i.more ≡ 3 → (x y : ℕ) × ((z : List ℕ) × (w ≡ x ∷ y ∷ z))
    two [] k m = absurd (omega arith)
    two (x ∷ []) k m = absurd (omega arith)
    two (x ∷ y ∷ z) k m = (x, y, (z, refl))

    at : (t : Bool) → pick t (taking 3 (hex_byte (hex_digit (get_or (w ++ u) 0 0)) (hex_digit (get_or (w ++ u) 1 0)))) (taking 1 (escape_in escapes c)) ≡ Some i
        → (i.more ≤ suc (length w) → i.more ≡ 3 → (x y : ℕ) × ((z : List ℕ) × (w ≡ x ∷ y ∷ z)))
        → pick t (taking 3 (hex_byte (hex_digit (get_or (w ++ v) 0 0)) (hex_digit (get_or (w ++ v) 1 0)))) (taking 1 (escape_in escapes c)) ≡ Some i
    at true q f =
        let (x, y, (z, r)) = f h (taking-more 3 (hex_byte (hex_digit (get_or (w ++ u) 0 0)) (hex_digit (get_or (w ++ u) 1 0))) i q) in
        rw r (rw r at q)
    at false q f = q

byte-here : (b : ℕ) (w u v : List ℕ) (i : Item ℕ) → coded_byte b (w ++ u) ≡ Some i → i.more ≤ length w → coded_byte b (w ++ v) ≡ Some i
byte-here b w u v i e h = at (eqb b 92) e
  where
    at : (t : Bool) → pick t (escaped (w ++ u)) (Some (record { value = b; more = 0 })) ≡ Some i → pick t (escaped (w ++ v)) (Some (record { value = b; more = 0 })) ≡ Some i
    at true q = escaped-here w u v i q h
    at false q = q

-- a byte that nothing else is written for stands for itself
byte_itself : (b : ℕ) (bs : List ℕ) (i : Item ℕ) → coded_byte b bs ≡ Some i → i.more ≡ 0 → i.value ≡ b
byte_itself b bs i e z = at (eqb b 92) e
  where
    in_escape : (t : Bool) → pick t (taking 3 (hex_byte (hex_digit (get_or bs 1 0)) (hex_digit (get_or bs 2 0)))) (taking 1 (escape_in escapes (get_or bs 0 0))) ≡ Some i → ⊥
    in_escape true q = let m = taking-more 3 (hex_byte (hex_digit (get_or bs 1 0)) (hex_digit (get_or bs 2 0))) i q in omega arith
    in_escape false q = let m = taking-more 1 (escape_in escapes (get_or bs 0 0)) i q in omega arith

    at : (t : Bool) → pick t (escaped bs) (Some (record { value = b; more = 0 })) ≡ Some i → i.value ≡ b
    at true q = absurd (in_escape (eqb (get_or bs 0 0) 120) q)
    at false q = sym (ap (λ (j : Item ℕ). j.value) (same_Some _ i q))

-- the bytes as written up to the closing mark decide the value, whatever follows the mark; they are no fewer than those of the value,
-- and as many only where they are the value
pub record Written (k : ℕ) (bs : List ℕ) (p : Part (List ℕ)) : Type 0 where
  pub bytes : List ℕ
  pub whole : bs ≡ bytes ++ (34 ∷ p.rest)
  pub alone : (r : List ℕ) → coded k (bytes ++ (34 ∷ r)) ≡ Some (record { value = p.value; rest = r })
  pub enough : length p.value + k ≤ length bytes
  pub plain : length bytes ≤ length p.value → bytes ≡ p.value

pub coded-written : (k : ℕ) (bs : List ℕ) (p : Part (List ℕ)) → coded k bs ≡ Some p → Written k bs p
unfolding coded
coded-written k [] p e = absurd (none-some p e)
coded-written (suc k) (b ∷ bs) p e =
    let i = coded-written k bs p e in
    record {
      bytes = b ∷ i.bytes;
      whole = ap (λ (l : List ℕ). b ∷ l) i.whole;
      alone = i.alone;
      enough = omega (arith, i.enough);
      plain = λ h. absurd (omega (arith, i.enough));
    }
coded-written zero (b ∷ bs) p e = at (eqb b 34) refl (coded_byte b bs) refl e (λ m q f. coded-written m bs q f)
  where
    cons : {x y : ℕ} {xs ys : List ℕ} → x ≡ y → xs ≡ ys → y ∷ xs ≡ x ∷ ys
    cons p q = cc

    putting : (i : Item ℕ) (o : Option (Part (List ℕ))) → coded i.more bs ≡ o → put i.value o ≡ Some p → eqb b 34 ≡ false → coded_byte b bs ≡ Some i
        → ((m : ℕ) (q : Part (List ℕ)) → coded m bs ≡ Some q → Written m bs q) → Written zero (b ∷ bs) p
    putting i None q e n c ih = absurd (none-some p e)
    putting i (Some r) q e n c ih =
        let w = ih i.more r q in
        let z = same_Some _ p e in
        let here : (t : List ℕ) → coded_byte b (w.bytes ++ (34 ∷ t)) ≡ Some i = λ t. byte-here b w.bytes (34 ∷ r.rest) (34 ∷ t) i (rw w.whole at c) (omega (arith, w.enough)) in
        record {
          bytes = b ∷ w.bytes;
          whole = rw (← z) (ap (λ (l : List ℕ). b ∷ l) w.whole);
          alone = λ t. rw (n, here t, w.alone t, ← z);
          enough = rw (← z) (omega (arith, w.enough));
          plain = rw (← z) (λ h. cons (byte_itself b bs i c (omega (arith, w.enough))) (w.plain (omega arith)));
        }

    at : (t : Bool) → eqb b 34 ≡ t → (o : Option (Item ℕ)) → coded_byte b bs ≡ o → coded_step t b bs (λ more. coded more bs) ≡ Some p
        → ((m : ℕ) (q : Part (List ℕ)) → coded m bs ≡ Some q → Written m bs q) → Written zero (b ∷ bs) p
    at true n o c q ih =
        let z = same_Some _ p q in
        let g : b ≡ 34 = eqb-true b 34 n in
        record { bytes = []; whole = rw (← z) (ap (λ (x : ℕ). x ∷ bs) g); alone = λ r. rw (← z); enough = rw (← z) (omega arith); plain = rw (← z) (λ h. refl) }
    at false n None c q ih = absurd (none-some p (sym (ap (λ (o : Option (Item ℕ)). coded_then o (λ more. coded more bs)) c) ∙ q))
    at false n (Some i) c q ih = putting i (coded i.more bs) refl (sym (ap (λ (o : Option (Item ℕ)). coded_then o (λ more. coded more bs)) c) ∙ q) n c ih
