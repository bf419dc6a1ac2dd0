-- The devices of a chain by their offsets: each begins where the one before it ends, and the last ends with the record.
-- Assumes nothing.
use Prim.Native.Nat.{ℕ, zero, suc, ◌+◌, ◌-◌, ◌≤◌}
use mathlib.Core.Path.{◌≡◌, refl, sym, ap, ap₂, ◌∙◌, subst}
use mathlib.Core.List.{List, [], ◌∷◌}
use Rattle.std.specs.Prelude.{Some}
use Rattle.std.proofs.lemmas.Option.{none-some, same_Some}
use native.Mathlib.Omega.{arith}
use lib.Dec.{ltb}
use lib.ListN.{length, drop, get_or, length-append, length-drop}
use lib.Seq.{drop_at, drop-drop, get_or-take}
use borrow.Author.Tests.{lt-ltb, le-ltb}
use Rattle.lists.specs.Lists.{cat, nth}
use Rattle.lists.specs.Bytes.{Bytes}
use Rattle.entries.specs.Entry.{enc_prop}
use Rattle.device.specs.Device.{Member, Device, chain, member_at, enc_member, decode}
use Rattle.device.specs.Places.{starts_from, starts, Lies}
use Rattle.device.proofs.Places.{chain-bytes, lies}
use Rattle.device_head.proofs.Lying.{member-length, lies_within}
use Rattle.device_lookup.specs.Lookup.{Chained}
use Rattle.device_lookup.specs.declared.Chain.{Chain}
use Rattle.device_lookup.proofs.Devices.{record_short}
use Rattle.device_view.specs.View.{start_at, AtPlace, Stands}

nth-get_or : (xs : List ℕ) (k x : ℕ) → nth k xs ≡ Some x → get_or xs k 0 ≡ x
nth-get_or [] k x e = absurd (none-some x e)
nth-get_or (y ∷ xs) zero x e = same_Some y x e
nth-get_or (y ∷ xs) (suc k) x e = nth-get_or xs k x e

-- places count from 1
pub nth-place : (d : Device) (n : ℕ) (m : Member) → member_at n d ≡ Some m → nth (n - 1) (chain d) ≡ Some m
nth-place d zero m e = absurd (none-some m e)
nth-place d (suc k) m e = let h : suc k - 1 ≡ k = omega arith in ap (λ (i : ℕ). nth i (chain d)) h ∙ e

-- ---- among devices the first of which begins at p

next-from : (ms : List Member) (p k at : ℕ) (m x : Member) → nth k ms ≡ Some m → nth k (starts_from p ms) ≡ Some at → nth (suc k) ms ≡ Some x
    → nth (suc k) (starts_from p ms) ≡ Some (at + length (enc_member m))
next-from [] p k at m x e f g = absurd (none-some m e)
next-from (y ∷ []) p zero at m x e f g = absurd (none-some x g)
next-from (y ∷ z ∷ ms) p zero at m x e f g = ap₂ (λ (i : ℕ) (u : Member). Some (i + length (enc_member u))) (same_Some p at f) (same_Some y m e)
next-from (y ∷ ms) p (suc k) at m x e f g = next-from ms (p + length (enc_member y)) k at m x e f g

-- behind the first of them
behind : (l : List ℕ) (p : ℕ) (y : Member) (ms : List Member) → drop p l ≡ cat enc_member (y ∷ ms) → drop (p + length (enc_member y)) l ≡ cat enc_member ms
behind l p y ms h =
    sym (drop-drop (length (enc_member y)) p l)
    ∙ ap (drop (length (enc_member y))) h
    ∙ drop_at (enc_member y) (cat enc_member ms) (length (enc_member y)) refl

behind-from : (l : List ℕ) (ms : List Member) (p k at : ℕ) (m : Member) → drop p l ≡ cat enc_member ms → nth k ms ≡ Some m → nth k (starts_from p ms) ≡ Some at
    → drop (at + length (enc_member m)) l ≡ cat enc_member (drop (suc k) ms)
behind-from l [] p k at m h e f = absurd (none-some m e)
behind-from l (y ∷ ms) p zero at m h e f =
    ap₂ (λ (i : ℕ) (u : Member). drop (i + length (enc_member u)) l) (sym (same_Some p at f)) (sym (same_Some y m e)) ∙ behind l p y ms h
behind-from l (y ∷ ms) p (suc k) at m h e f = behind-from l ms (p + length (enc_member y)) k at m (behind l p y ms h) e f

-- ---- in a sound record

module _ (l : List ℕ) (d : Device) (b : Bytes l) (e : decode l ≡ Some d) where
  pub place_lies : (n at : ℕ) (m : Member) → AtPlace d n at m → Lies l at m
  place_lies zero at m p = absurd (none-some m p.member)
  place_lies (suc k) at m p = subst (λ (i : ℕ). Lies l i m) (nth-get_or (starts d) k at p.start) (lies l d b e k m p.member)

  -- the event device begins where the chain says
  pub event_stands : (r : Chain) → Chained d r → Stands l d 1 (get_or r.at 0 0) d.event
  event_stands r c =
      let a : AtPlace d 1 (get_or r.at 0 0) d.event =
      record { member = refl; start = ap Some (ap (λ (x : List ℕ). get_or x 0 0) (sym c.at) ∙ get_or-take r.len r.at 0 0 (omega (arith, c.len))) }
      in
      let h : Lies l (get_or r.at 0 0) d.event = place_lies 1 (get_or r.at 0 0) d.event a in
      record { place = a; lies = h; standing = record { member = d.event; lies = h; short = record_short l d b e } }

  -- the parent begins where the device ends
  pub parent_stands : (n at r : ℕ) (m x : Member) → AtPlace d n at m → r ≡ at + length (enc_member m) → member_at (suc n) d ≡ Some x → Stands l d (suc n) r x
  parent_stands zero at r m x p f g = absurd (none-some m p.member)
  parent_stands (suc k) at r m x p f g =
      let s : start_at (suc (suc k)) d ≡ Some r = next-from (chain d) (7 + length (cat enc_prop d.properties)) k at m x p.member p.start g ∙ ap Some (sym f) in
      let a : AtPlace d (suc (suc k)) r x = record { member = g; start = s } in
      let h : Lies l r x = place_lies (suc (suc k)) r x a in
      record { place = a; lies = h; standing = record { member = x; lies = h; short = record_short l d b e } }

  -- the record goes on behind a device as far as the chain does
  pub parent_test_lem : (n at r : ℕ) (m : Member) → AtPlace d n at m → r ≡ at + length (enc_member m) → ltb r (length l) ≡ ltb n (length (chain d))
  parent_test_lem zero at r m p f = absurd (none-some m p.member)
  parent_test_lem (suc k) at r m p f = go (drop (suc k) (chain d)) refl
    where
      within : r ≤ length l
      within = omega (arith, f, lies_within l at m (place_lies (suc k) at m p))

      left : drop r l ≡ cat enc_member (drop (suc k) (chain d))
      left =
          ap (λ (i : ℕ). drop i l) f
          ∙ behind-from l (chain d) (7 + length (cat enc_prop d.properties)) k at m (chain-bytes l d b e) p.member p.start

      go : (ms : List Member) → drop (suc k) (chain d) ≡ ms → ltb r (length l) ≡ ltb (suc k) (length (chain d))
      go [] g =
          le-ltb r (length l) (omega (arith, within, length-drop r l, ap length (left ∙ ap (cat enc_member) g)))
          ∙ sym (le-ltb (suc k) (length (chain d)) (omega (arith, length-drop (suc k) (chain d), ap length g)))
      go (x ∷ ms) g =
          lt-ltb r (length l) (omega (arith, within, length-drop r l, ap length (left ∙ ap (cat enc_member) g), length-append (enc_member x) (cat enc_member ms), member-length x))
          ∙ sym (lt-ltb (suc k) (length (chain d)) (omega (arith, length-drop (suc k) (chain d), ap length g)))
