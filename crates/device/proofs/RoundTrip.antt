-- A record that was read is the bytes of its device.
-- Assumes nothing.
use Prim.Native.Nat.{ℕ, ◌≤◌}
use mathlib.Core.Path.{◌≡◌, refl, sym, ap, ap₂, ◌∙◌, subst}
use mathlib.Core.Bool.{Bool, true, false, ◌&&◌, ◌||◌}
use mathlib.Core.List.{List, [], ◌∷◌, ◌++◌, append_assoc, append-nil}
use Rattle.std.specs.Prelude.{Some, None}
use native.Mathlib.Omega.{arith}
use lib.ListN.{length, take, drop}
use lib.Dec.{leb, eqb}
use borrow.Author.Tests.{leb-true, eqb-true}
use Rattle.lists.specs.Lists.{cat}
use Rattle.lists.specs.Bytes.{Bytes}
use Rattle.lists.specs.Sizes.{most_device, most_properties}
use Rattle.lists.proofs.Tests.{and_both}
use Rattle.lists.proofs.Bytes.{bytes_rest}
use Rattle.lists.proofs.Records.{bytes-first}
use Rattle.entries.specs.Parse.{Parse, got, bad, many}
use Rattle.entries.specs.Entry.{exactly, Property, enc_prop, one_prop}
use Rattle.entries.proofs.Rows.{through, many-back, many-kept}
use Rattle.entries.proofs.Entries.{kept, exactly-back, prop_laws}
use Rattle.device.specs.Head.{Head, header, head_of}
use Rattle.device.specs.Device.{Member, Device, ok_head, enc_member, head_for, encode, one_member, device_of, read_head, parts, whole, ended, decode}
use Rattle.device.proofs.Head.{head_back}
use Rattle.device.proofs.Members.{member-laws}

-- a device's bytes in front of others, part by part
laid : (d : Device) (z : List ℕ) → encode d ++ z ≡ header (head_for d) ++ (cat enc_prop d.properties ++ (enc_member d.event ++ (cat enc_member d.parents ++ z)))
unfolding encode
laid d z = simp append_assoc

same_head : (h : Head) (ps : List Property) (e : Member) (ms : List Member) → ok_head h ≡ true → length ps ≡ h.properties → length ms ≡ h.above
    → head_for (device_of h ps e ms) ≡ h
same_head h ps e ms o l k =
    let (a, o₁) = and_both (eqb h.edition 1) _ o in
    let (_, o₂) = and_both (eqb h.node 1 || (eqb h.major 0 && eqb h.minor 0)) _ o₁ in
    let (_, b) = and_both (leb h.properties most_properties) (eqb h.unused 0) o₂ in
    let ed : 1 ≡ h.edition = sym (eqb-true h.edition 1 a) in
    let un : 0 ≡ h.unused = sym (eqb-true h.unused 0 b) in
    λ i.
    record {
      edition = ed i;
      above = k i;
      action = h.action;
      node = h.node;
      major = h.major;
      minor = h.minor;
      properties = l i;
      unused = un i;
    }

parts-back : (bs : List ℕ) (d : Device) (z : List ℕ) → Bytes bs → parts bs ≡ got d z → bs ≡ encode d ++ z
parts-back bs d z b e =
    through (read_head bs) _ d z e λ h r₀ p₀ e₀.
    through (exactly 7 bs) _ h r₀ p₀ λ head q p₄ e₄.
    through (many one_prop h.properties r₀) _ d z e₀ λ ps r₁ p₁ e₁.
    through (one_member r₁) _ d z e₁ λ m r₂ p₂ e₂.
    through (many one_member h.above r₂) _ d z e₂ λ ms r₃ p₃ e₃.
    let (o, x, y) = kept (ok_head (head_of head)) (head_of head) h q r₀ e₄ in
    let (w, l) = exactly-back 7 bs head q p₄ in
    let w₀ : bs ≡ head ++ r₀ = w ∙ ap (λ (u : List ℕ). head ++ u) y in
    let b₀ : Bytes r₀ = bytes_rest head r₀ (subst Bytes w₀ b) in
    let (q₁, _, l₁) = many-back prop_laws h.properties r₀ ps r₁ b₀ p₁ in
    let b₁ : Bytes r₁ = bytes_rest (cat enc_prop ps) r₁ (subst Bytes q₁ b₀) in
    let (q₂, _) = member-laws.back r₁ m r₂ b₁ p₂ in
    let b₂ : Bytes r₂ = bytes_rest (enc_member m) r₂ (subst Bytes q₂ b₁) in
    let (q₃, _, l₃) = many-back member-laws h.above r₂ ms r₃ b₂ p₃ in
    let v : Device = device_of h ps m ms in
    let f : head_for v ≡ h = same_head h ps m ms (ap ok_head (sym x) ∙ o) l₁ l₃ in
    let hb : header (head_for v) ≡ head = ap header (f ∙ sym x) ∙ head_back head (bytes-first head r₀ (subst Bytes w₀ b)) l in
    let from : r₀ ≡ cat enc_prop ps ++ (enc_member m ++ (cat enc_member ms ++ r₃)) =
    q₁ ∙ ap (λ (u : List ℕ). cat enc_prop ps ++ u) q₂ ∙ ap (λ (u : List ℕ). cat enc_prop ps ++ (enc_member m ++ u)) q₃
    in
    let eq : bs ≡ encode v ++ r₃ = w₀ ∙ ap₂ (λ (s t : List ℕ). s ++ t) (sym hb) from ∙ sym (laid v r₃) in
    eq ∙ got_same v d r₃ z e₃
  where
    got_same : (v d : Device) (r z : List ℕ) → got v r ≡ got d z → encode v ++ r ≡ encode d ++ z
    got_same v d r z e =
        let x : v ≡ d = cc in
        let y : r ≡ z = cc in
        ap₂ (λ (u : Device) (t : List ℕ). encode u ++ t) x y

-- reading to the end: nothing is left, and the whole is sound
pub ended-back : (p : Parse Device) (d : Device) → ended p ≡ Some d → (p ≡ got d []) × (whole d ≡ true)
ended-back bad d e = let z : ◌≡◌ {A = ℕ} 0 1 = cc in absurd (omega arith)
ended-back (got v (b ∷ bs)) d e = let z : ◌≡◌ {A = ℕ} 0 1 = cc in absurd (omega arith)
ended-back (got v []) d e = at (whole v) refl e
  where
    at : (t : Bool) → whole v ≡ t → ended (got v []) ≡ Some d → (got v [] ≡ got d []) × (whole d ≡ true)
    at true h e = let q : Some v ≡ Some d = rw (h, ended) at e in let w : v ≡ d = cc in (ap (λ (x : Device). got x []) w, ap whole (sym w) ∙ h)
    at false h e = let q : None ≡ Some d = rw (h, ended) at e in let z : ◌≡◌ {A = ℕ} 0 1 = cc in absurd (omega arith)

-- a record that was read: its length, its parts to the end, the whole
pub decoded : (bs : List ℕ) (d : Device) → decode bs ≡ Some d → (length bs ≤ most_device) × (parts bs ≡ got d []) × (whole d ≡ true)
unfolding decode
decoded bs d e = at (leb (length bs) most_device) refl e
  where
    at : (t : Bool) → leb (length bs) most_device ≡ t → decode bs ≡ Some d → (length bs ≤ most_device) × (parts bs ≡ got d []) × (whole d ≡ true)
    at true h e =
        let q : ended (parts bs) ≡ Some d = rw (h, decode) at e in
        let (p, w) = ended-back (parts bs) d q in
        (leb-true (length bs) most_device h, p, w)
    at false h e = let q : None ≡ Some d = rw (h, decode) at e in let z : ◌≡◌ {A = ℕ} 0 1 = cc in absurd (omega arith)

pub back : (bs : List ℕ) (d : Device) → Bytes bs → decode bs ≡ Some d → encode d ≡ bs
back bs d b e = let (_, p, _) = decoded bs d e in sym (parts-back bs d [] b p ∙ append-nil (encode d))

-- its header is the one that was read
pub head_decoded : (bs : List ℕ) (d : Device) → decode bs ≡ Some d → head_of (take 7 bs) ≡ head_for d
head_decoded bs d e =
    let (_, p, _) = decoded bs d e in
    through (read_head bs) _ d [] p λ h r₀ p₀ e₀.
    through (exactly 7 bs) _ h r₀ p₀ λ head q p₄ e₄.
    through (many one_prop h.properties r₀) _ d [] e₀ λ ps r₁ p₁ e₁.
    through (one_member r₁) _ d [] e₁ λ m r₂ p₂ e₂.
    through (many one_member h.above r₂) _ d [] e₂ λ ms r₃ p₃ e₃.
    let (_, w, _) = kept (leb 7 (length bs)) (take 7 bs) head (drop 7 bs) q p₄ in
    let (o, x, _) = kept (ok_head (head_of head)) (head_of head) h q r₀ e₄ in
    let (_, l₁) = many-kept (λ _. true) one_prop (λ _ _ _ _. refl) h.properties r₀ ps r₁ p₁ in
    let (_, l₃) = many-kept (λ _. true) one_member (λ _ _ _ _. refl) h.above r₂ ms r₃ p₃ in
    ap head_of w ∙ x ∙ sym (same_head h ps m ms (ap ok_head (sym x) ∙ o) l₁ l₃) ∙ ap head_for (got-first (device_of h ps m ms) r₃ e₃)
  where
    got-first : (v : Device) (r : List ℕ) → got v r ≡ got d [] → v ≡ d
    got-first v r e = cc
