-- The parts of a device that lies at a place of a record, in the places that code has.
-- Assumes nothing.
use Prim.Native.Nat.{ℕ, ◌+◌, ◌≤◌}
use mathlib.Core.Path.{◌≡◌, refl, sym, ap, ap₂, ◌∙◌}
use mathlib.Core.List.{List, ◌++◌}
use native.Mathlib.Omega.{arith}
use lib.ListN.{length, take, drop, length-append, length-drop}
use lib.Seq.{take_at, drop_at, drop-drop}
use Rattle.lists.specs.Lists.{cat}
use Rattle.entries.specs.Entry.{enc_prop}
use Rattle.device.specs.Head.{Lens, lens_bytes, lens_of}
use Rattle.device.specs.Device.{Member, lens_for, enc_member}
use Rattle.device.specs.Places.{Lies}
use Rattle.device.proofs.Head.{lens_length, lens_there}
use Rattle.device.proofs.Members.{member-parts, member_fit, member_laid}
use Rattle.device_head.specs.Read.{path_len, path_in}

-- the length of a device's bytes
pub member-length : (m : Member)
    → length (enc_member m) ≡ 4 + (length m.path + (length m.subsystem + (length m.driver + length (cat enc_prop m.attributes))))
member-length m =
    length-append (lens_bytes (lens_for m)) _
    ∙ ap₂ (λ (i j : ℕ). i + j) (lens_length (lens_for m))
    (length-append m.path _
    ∙ ap (λ (j : ℕ). length m.path + j)
    (length-append m.subsystem _ ∙ ap (λ (j : ℕ). length m.subsystem + j) (length-append m.driver (cat enc_prop m.attributes))))

module _ (l : List ℕ) (at : ℕ) (m : Member) (h : Lies l at m) where
  -- it ends within the record
  pub lies_within : at + length (enc_member m) ≤ length l
  lies_within = omega (arith, ap length h.bytes, length-drop at l, length-append (enc_member m) h.rest, member-length m)

  -- its bytes, part by part
  laid : drop at l ≡ lens_bytes (lens_for m) ++ (m.path ++ (m.subsystem ++ (m.driver ++ (cat enc_prop m.attributes ++ h.rest))))
  laid = h.bytes ∙ member_laid m h.rest

  pub lies_lens : lens_of (take 4 (drop at l)) ≡ lens_for m
  lies_lens =
      ap lens_of (ap (take 4) laid ∙ take_at (lens_bytes (lens_for m)) _ 4 (lens_length (lens_for m)))
      ∙ lens_there (lens_for m) (member_fit m (member-parts m h.sound))

  from-path : drop (at + 4) l ≡ m.path ++ (m.subsystem ++ (m.driver ++ (cat enc_prop m.attributes ++ h.rest)))
  from-path = sym (drop-drop 4 at l) ∙ ap (drop 4) laid ∙ drop_at (lens_bytes (lens_for m)) _ 4 (lens_length (lens_for m))

  from-subsystem : drop (at + 4 + length m.path) l ≡ m.subsystem ++ (m.driver ++ (cat enc_prop m.attributes ++ h.rest))
  from-subsystem = sym (drop-drop (length m.path) (at + 4) l) ∙ ap (drop (length m.path)) from-path ∙ drop_at m.path _ (length m.path) refl

  from-driver : drop (at + 4 + length m.path + length m.subsystem) l ≡ m.driver ++ (cat enc_prop m.attributes ++ h.rest)
  from-driver =
      sym (drop-drop (length m.subsystem) (at + 4 + length m.path) l)
      ∙ ap (drop (length m.subsystem)) from-subsystem
      ∙ drop_at m.subsystem _ (length m.subsystem) refl

  -- the attributes, and what follows the device
  pub lies_attributes : drop (at + 4 + length m.path + length m.subsystem + length m.driver) l ≡ cat enc_prop m.attributes ++ h.rest
  lies_attributes =
      sym (drop-drop (length m.driver) (at + 4 + length m.path + length m.subsystem) l)
      ∙ ap (drop (length m.driver)) from-driver
      ∙ drop_at m.driver _ (length m.driver) refl

  -- the three texts
  pub lies_path : path_in l at ≡ m.path
  lies_path =
      ap (λ (n : Lens). take n.path (drop (at + 4) l)) lies_lens ∙ ap (take (length m.path)) from-path ∙ take_at m.path _ (length m.path) refl

  pub lies_subsystem : take (length m.subsystem) (drop (at + 4 + length m.path) l) ≡ m.subsystem
  lies_subsystem = ap (take (length m.subsystem)) from-subsystem ∙ take_at m.subsystem _ (length m.subsystem) refl

  pub lies_driver : take (length m.driver) (drop (at + 4 + length m.path + length m.subsystem) l) ≡ m.driver
  lies_driver = ap (take (length m.driver)) from-driver ∙ take_at m.driver _ (length m.driver) refl

  pub lies_length : path_len l at ≡ length m.path
  lies_length = ap (λ (n : Lens). n.path) lies_lens
