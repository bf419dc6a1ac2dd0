-- Each device of a record that was read lies where the record's devices begin.
-- Assumes nothing.
use Prim.Native.Nat.{ℕ, zero, suc, ◌+◌}
use mathlib.Core.Path.{◌≡◌, refl, sym, ap, ◌∙◌}
use mathlib.Core.Bool.{true}
use mathlib.Core.List.{List, [], ◌∷◌, ◌++◌, append_assoc, append-nil}
use Rattle.std.specs.Prelude.{Some}
use native.Mathlib.Omega.{arith}
use lib.ListN.{length, drop, get_or}
use lib.Seq.{drop_at, drop-drop}
use Rattle.lists.specs.Lists.{cat, all, nth}
use Rattle.lists.specs.Bytes.{Bytes}
use Rattle.lists.proofs.Tests.{and_both, both_and}
use Rattle.entries.specs.Entry.{enc_prop}
use Rattle.device.specs.Head.{header}
use Rattle.device.specs.Device.{Member, Device, chain, ok_member, enc_member, head_for, encode, decode}
use Rattle.device.specs.Places.{starts_from, starts, Lies}
use Rattle.device.proofs.Head.{header-length}
use Rattle.device.proofs.RoundTrip.{back}
use Rattle.device.proofs.Sound.{device_sound}

-- among devices whose bytes begin at p
pub lies_from : (l z : List ℕ) (p : ℕ) (ms : List Member) → all ok_member ms ≡ true → drop p l ≡ cat enc_member ms ++ z
    → (k : ℕ) (m : Member) → nth k ms ≡ Some m → Lies l (get_or (starts_from p ms) k 0) m
lies_from l z p [] o e k m n = let w : ◌≡◌ {A = ℕ} 0 1 = cc in absurd (omega arith)
lies_from l z p (x ∷ ms) o e zero m n =
    let q : x ≡ m = cc in
    rw (← q)
    (record { sound = (and_both (ok_member x) (all ok_member ms) o).0; rest = cat enc_member ms ++ z; bytes = e ∙ append_assoc (enc_member x) (cat enc_member ms) z })
lies_from l z p (x ∷ ms) o e (suc k) m n =
    let d : drop (p + length (enc_member x)) l ≡ cat enc_member ms ++ z =
    sym (drop-drop (length (enc_member x)) p l)
    ∙ ap (drop (length (enc_member x))) (e ∙ append_assoc (enc_member x) (cat enc_member ms) z)
    ∙ drop_at (enc_member x) (cat enc_member ms ++ z) (length (enc_member x)) refl
    in
    lies_from l z (p + length (enc_member x)) ms (and_both (ok_member x) (all ok_member ms) o).1 d k m n

-- behind the header stand the properties, and behind these the chain
pub record_bytes : (bs : List ℕ) (d : Device) → Bytes bs → decode bs ≡ Some d → drop 7 bs ≡ cat enc_prop d.properties ++ cat enc_member (chain d)
unfolding encode
record_bytes bs d b e =
    ap (drop 7) (sym (back bs d b e)) ∙ drop_at (header (head_for d)) (cat enc_prop d.properties ++ cat enc_member (chain d)) 7 (header-length (head_for d))

pub chain-bytes : (bs : List ℕ) (d : Device) → Bytes bs → decode bs ≡ Some d → drop (7 + length (cat enc_prop d.properties)) bs ≡ cat enc_member (chain d)
chain-bytes bs d b e =
    let ps : List ℕ = cat enc_prop d.properties in
    sym (drop-drop (length ps) 7 bs) ∙ ap (drop (length ps)) (record_bytes bs d b e) ∙ drop_at ps (cat enc_member (chain d)) (length ps) refl

pub lies : (bs : List ℕ) (d : Device) → Bytes bs → decode bs ≡ Some d → (k : ℕ) (m : Member) → nth k (chain d) ≡ Some m → Lies bs (get_or (starts d) k 0) m
lies bs d b e k m n =
    let s = device_sound bs d e in
    lies_from bs [] (7 + length (cat enc_prop d.properties)) (chain d) (both_and _ _ s.event s.parents) (chain-bytes bs d b e ∙ sym (append-nil (cat enc_member (chain d)))) k m n
