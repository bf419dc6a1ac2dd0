-- What holds of every device that was read from a record.
-- Assumes nothing.
use Prim.Native.Nat.{ℕ, ◌≤◌, ◌<◌}
use mathlib.Core.Path.{◌≡◌, sym, ap, ◌∙◌, subst}
use mathlib.Core.Bool.{true, ◌&&◌, ◌||◌}
use mathlib.Core.List.{List, []}
use Rattle.std.specs.Prelude.{Some}
use lib.ListN.{length}
use lib.Dec.{leb, eqb}
use borrow.Author.Tests.{leb-true}
use Rattle.lists.specs.Lists.{all}
use Rattle.lists.specs.Bytes.{distinct}
use Rattle.lists.proofs.Tests.{and_both}
use Rattle.bits.proofs.Numbers.{number_lt}
use Rattle.entries.specs.Parse.{got, many}
use Rattle.entries.specs.Entry.{exactly, Property, ok_prop, one_prop, keys}
use Rattle.entries.proofs.Rows.{through, many-kept}
use Rattle.entries.proofs.Entries.{kept, property-kept}
use Rattle.lists.specs.Sizes.{most_chain, most_properties}
use Rattle.device.specs.Head.{Head, head_of}
use Rattle.device.proofs.RoundTrip.{decoded}
use Rattle.device.specs.Device.{Member, Device, ok_member, ok_head, member_of, read_lens, one_member, device_of, rising, read_head, parts, decode}

-- ---- one device of the chain

member-kept : (bs : List ℕ) (m : Member) (r : List ℕ) → one_member bs ≡ got m r → ok_member m ≡ true
member-kept bs m r e =
    through (read_lens bs) _ m r e λ n r₀ p₀ e₀.
    through (exactly n.path r₀) _ m r e₀ λ p r₁ p₁ e₁.
    through (exactly n.subsystem r₁) _ m r e₁ λ s r₂ p₂ e₂.
    through (exactly n.driver r₂) _ m r e₂ λ d r₃ p₃ e₃.
    through (many one_prop n.attributes r₃) _ m r e₃ λ ps r₄ p₄ e₄.
    let (t, x, y) = kept (ok_member (member_of p s d ps)) (member_of p s d ps) m r₄ r e₄ in
    ap ok_member (sym x) ∙ t

-- ---- the device

-- the parts of a sound device
pub record Sound (d : Device) : Type 0 where
  pub event : ok_member d.event ≡ true
  pub parents : all ok_member d.parents ≡ true
  pub few : length d.parents < most_chain
  pub properties : all ok_prop d.properties ≡ true
  pub few_properties : length d.properties ≤ most_properties

few_properties : (h : Head) → ok_head h ≡ true → h.properties ≤ most_properties
few_properties h o =
    let a = and_both (eqb h.edition 1) _ o in
    let b = and_both (eqb h.node 1 || (eqb h.major 0 && eqb h.minor 0)) _ a.1 in
    leb-true h.properties most_properties (and_both (leb h.properties most_properties) (eqb h.unused 0) b.1).0

parts-sound : (bs : List ℕ) (d : Device) (r : List ℕ) → parts bs ≡ got d r → Sound d
parts-sound bs d r e =
    through (read_head bs) _ d r e λ h r₀ p₀ e₀.
    through (many one_prop h.properties r₀) _ d r e₀ λ ps r₁ p₁ e₁.
    through (one_member r₁) _ d r e₁ λ m r₂ p₂ e₂.
    through (many one_member h.above r₂) _ d r e₂ λ ms r₃ p₃ e₃.
    through (exactly 7 bs) _ h r₀ p₀ λ head q₀ p₄ e₄.
    let (o₀, x, y) = kept (ok_head (head_of head)) (head_of head) h q₀ r₀ e₄ in
    let (k, l) = many-kept ok_member one_member member-kept h.above r₂ ms r₃ p₃ in
    let (i, j) = many-kept ok_prop one_prop property-kept h.properties r₀ ps r₁ p₁ in
    let o : ok_head h ≡ true = ap ok_head (sym x) ∙ o₀ in
    let a : h.above < most_chain = subst (λ (h : Head). h.above < most_chain) x (number_lt head 4 4) in
    of_parts h ps m ms r₃ e₃ (member-kept r₁ m r₂ p₂) k (subst (λ (n : ℕ). n < most_chain) (sym l) a) i (subst (λ (n : ℕ). n ≤ most_properties) (sym j) (few_properties h o))
  where
    of_parts : (h : Head) (ps : List Property) (m : Member) (ms : List Member) (q : List ℕ) → got (device_of h ps m ms) q ≡ got d r
        → ok_member m ≡ true → all ok_member ms ≡ true → length ms < most_chain → all ok_prop ps ≡ true → length ps ≤ most_properties → Sound d
    of_parts h ps m ms q e a b c i j =
        let p : device_of h ps m ms ≡ d = cc in
        subst Sound p (record { event = a; parents = b; few = c; properties = i; few_properties = j })

pub device_sound : (bs : List ℕ) (d : Device) → decode bs ≡ Some d → Sound d
device_sound bs d e = parts-sound bs d [] (decoded bs d e).1

-- no property key stands twice
pub device_distinct : (bs : List ℕ) (d : Device) → decode bs ≡ Some d → distinct (keys d.properties) ≡ true
device_distinct bs d e = (and_both (distinct (keys d.properties)) (rising d.event d.parents) (decoded bs d e).2).0
