-- One device of the chain is read back, and what was read was so written.
-- Assumes nothing.
use Prim.Native.Nat.{ℕ, ◌≤◌}
use mathlib.Core.Path.{◌≡◌, refl, sym, ap, ap₂, ◌∙◌, subst}
use mathlib.Core.Bool.{Bool, true}
use mathlib.Core.List.{List, ◌++◌, append_assoc}
use native.Mathlib.Omega.{arith}
use lib.ListN.{length}
use lib.Dec.{leb, eqb}
use borrow.Author.Tests.{leb-true, eqb-true}
use Rattle.lists.specs.Lists.{all, cat}
use Rattle.lists.specs.Bytes.{Bytes, clean, distinct}
use Rattle.lists.specs.Sizes.{most_path, most_subsystem, most_attributes}
use Rattle.lists.proofs.Tests.{and_both}
use Rattle.lists.proofs.Bytes.{bytes_rest}
use Rattle.lists.proofs.Records.{bytes-first}
use Rattle.bits.proofs.Fields.{Fit}
use Rattle.entries.specs.Parse.{Parse, got, bind, keep, many}
use Rattle.entries.specs.Entry.{exactly, Property, ok_prop, enc_prop, one_prop, keys}
use Rattle.entries.proofs.Rows.{Laws, through, many_there, many-back}
use Rattle.entries.proofs.Entries.{kept, exactly_there, exactly-back, prop_laws}
use Rattle.device.specs.Head.{Lens, lens_fields, lens_bytes, lens_of}
use Rattle.device.specs.Device.{Member, ok_path, ok_member, lens_for, enc_member, member_of, read_lens, one_member}
use Rattle.device.proofs.Head.{lens_first, lens_there, lens_back}

-- ---- what a sound device is

pub record Parts (m : Member) : Type 0 where
  pub some : 1 ≤ length m.path
  pub short : length m.path ≤ most_path
  pub clean-path : clean m.path ≡ true
  pub path : ok_path m.path ≡ true
  pub short_subsystem : length m.subsystem ≤ most_subsystem
  pub clean-subsystem : clean m.subsystem ≡ true
  pub short_driver : length m.driver ≤ most_subsystem
  pub clean-driver : clean m.driver ≡ true
  pub few : length m.attributes ≤ most_attributes
  pub each : all ok_prop m.attributes ≡ true
  pub apart : distinct (keys m.attributes) ≡ true

pub member-parts : (m : Member) → ok_member m ≡ true → Parts m
member-parts m o =
    let (a, o₁) = and_both (leb 1 (length m.path)) _ o in
    let (b, o₂) = and_both (leb (length m.path) most_path) _ o₁ in
    let (c, o₃) = and_both (clean m.path) _ o₂ in
    let (d, o₄) = and_both (ok_path m.path) _ o₃ in
    let (e, o₅) = and_both (leb (length m.subsystem) most_subsystem) _ o₄ in
    let (f, o₆) = and_both (clean m.subsystem) _ o₅ in
    let (g, o₇) = and_both (leb (length m.driver) most_subsystem) _ o₆ in
    let (h, o₈) = and_both (clean m.driver) _ o₇ in
    let (i, o₉) = and_both (leb (length m.attributes) most_attributes) _ o₈ in
    let (j, k) = and_both (all ok_prop m.attributes) (distinct (keys m.attributes)) o₉ in
    record {
      some = leb-true _ _ a;
      short = leb-true _ _ b;
      clean-path = c;
      path = d;
      short_subsystem = leb-true _ _ e;
      clean-subsystem = f;
      short_driver = leb-true _ _ g;
      clean-driver = h;
      few = leb-true _ _ i;
      each = j;
      apart = k;
    }

pub member_fit : (m : Member) → Parts m → Fit (lens_fields (lens_for m))
member_fit m p =
    let a = p.short in
    let b = p.short_subsystem in
    let c = p.short_driver in
    let d = p.few in
    (omega arith, (omega arith, (omega arith, (omega arith, (omega arith, tt)))))

-- ---- its numbers

lens_got : (n : Lens) (r : List ℕ) → Fit (lens_fields n) → eqb n.unused 0 ≡ true → read_lens (lens_bytes n ++ r) ≡ got n r
lens_got n r f u =
    ap (λ (x : Parse (List ℕ)). bind x (λ head q. keep (eqb (lens_of head).unused 0) (lens_of head) q)) (lens_first n r)
    ∙ ap (λ (x : Lens). keep (eqb x.unused 0) x r) (lens_there n f)
    ∙ ap (λ (x : Bool). keep x n r) u

-- ---- both ways

-- its bytes in front of others, part by part
pub member_laid : (m : Member) (r : List ℕ)
    → enc_member m ++ r ≡ lens_bytes (lens_for m) ++ (m.path ++ (m.subsystem ++ (m.driver ++ (cat enc_prop m.attributes ++ r))))
member_laid m r = simp append_assoc

member_there : (m : Member) (r : List ℕ) → ok_member m ≡ true → one_member (enc_member m ++ r) ≡ got m r
member_there m r o =
    let p = member-parts m o in
    rw (
      member_laid m r,
      lens_got (lens_for m) (m.path ++ (m.subsystem ++ (m.driver ++ (cat enc_prop m.attributes ++ r)))) (member_fit m p) refl,
      exactly_there m.path (m.subsystem ++ (m.driver ++ (cat enc_prop m.attributes ++ r))),
      exactly_there m.subsystem (m.driver ++ (cat enc_prop m.attributes ++ r)),
      exactly_there m.driver (cat enc_prop m.attributes ++ r),
      many_there prop_laws m.attributes r p.each,
      o,
    )

-- the numbers of a device that was read are those that were read
same_lens : (n : Lens) (p s d : List ℕ) (ps : List Property) → length p ≡ n.path → length s ≡ n.subsystem → length d ≡ n.driver → length ps ≡ n.attributes → n.unused ≡ 0
    → lens_for (member_of p s d ps) ≡ n
same_lens n p s d ps a b c e u = λ i. record { path = a i; subsystem = b i; driver = c i; attributes = e i; unused = sym u i }

member_back : (bs : List ℕ) (m : Member) (r : List ℕ) → Bytes bs → one_member bs ≡ got m r → (bs ≡ enc_member m ++ r) × (ok_member m ≡ true)
member_back bs m r b e =
    through (read_lens bs) _ m r e λ n r₀ p₀ e₀.
    through (exactly 4 bs) _ n r₀ p₀ λ head q p₅ e₅.
    through (exactly n.path r₀) _ m r e₀ λ p r₁ p₁ e₁.
    through (exactly n.subsystem r₁) _ m r e₁ λ s r₂ p₂ e₂.
    through (exactly n.driver r₂) _ m r e₂ λ d r₃ p₃ e₃.
    through (many one_prop n.attributes r₃) _ m r e₃ λ ps r₄ p₄ e₄.
    let (u, x, y) = kept (eqb (lens_of head).unused 0) (lens_of head) n q r₀ e₅ in
    let (o, x₄, y₄) = kept (ok_member (member_of p s d ps)) (member_of p s d ps) m r₄ r e₄ in
    let (w, l) = exactly-back 4 bs head q p₅ in
    let (q₁, l₁) = exactly-back n.path r₀ p r₁ p₁ in
    let (q₂, l₂) = exactly-back n.subsystem r₁ s r₂ p₂ in
    let (q₃, l₃) = exactly-back n.driver r₂ d r₃ p₃ in
    let w₀ : bs ≡ head ++ r₀ = w ∙ ap (λ (z : List ℕ). head ++ z) y in
    let b₀ : Bytes r₀ = bytes_rest head r₀ (subst Bytes w₀ b) in
    let b₁ : Bytes r₁ = bytes_rest p r₁ (subst Bytes q₁ b₀) in
    let b₂ : Bytes r₂ = bytes_rest s r₂ (subst Bytes q₂ b₁) in
    let b₃ : Bytes r₃ = bytes_rest d r₃ (subst Bytes q₃ b₂) in
    let (q₄, _, l₄) = many-back prop_laws n.attributes r₃ ps r₄ b₃ p₄ in
    let v : Member = member_of p s d ps in
    let f : lens_for v ≡ n = same_lens n p s d ps l₁ l₂ l₃ l₄ (ap (λ (z : Lens). z.unused) (sym x) ∙ eqb-true _ 0 u) in
    let h : lens_bytes (lens_for v) ≡ head = ap lens_bytes (f ∙ sym x) ∙ lens_back head (bytes-first head r₀ (subst Bytes w₀ b)) l in
    let from : r₀ ≡ p ++ (s ++ (d ++ (cat enc_prop ps ++ r₄))) =
    q₁ ∙ ap (λ (z : List ℕ). p ++ z) q₂ ∙ ap (λ (z : List ℕ). p ++ (s ++ z)) q₃ ∙ ap (λ (z : List ℕ). p ++ (s ++ (d ++ z))) q₄
    in
    let eq : bs ≡ enc_member v ++ r₄ = w₀ ∙ ap₂ (λ (y z : List ℕ). y ++ z) (sym h) from ∙ sym (member_laid v r₄) in
    (eq ∙ ap₂ (λ (y : Member) (z : List ℕ). enc_member y ++ z) x₄ y₄, ap ok_member (sym x₄) ∙ o)

pub member-laws : Laws Member enc_member ok_member one_member
member-laws = record { there = member_there; back = member_back }
