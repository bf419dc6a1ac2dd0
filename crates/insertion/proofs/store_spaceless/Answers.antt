use Prim.Native.Nat.{ℕ, ◌<◌, ◌-◌, ◌+◌}
use mathlib.Core.Path.{◌≡◌, ap, ◌∙◌, sym}
use mathlib.Core.List.{List, ◌++◌, map, append_assoc}
use native.Mathlib.Numerals.{add-one}
use native.Mathlib.Omega.{arith}
use lib.ListN.{length, take, drop, set, get_or, length-map, get_or-map}
use lib.Seq.{paste, paste-zero, paste-suc, take-length}
use Rattle.lists.specs.Bytes.{no_space}
use Rattle.splice.specs.Moves.{stored}
use Rattle.insertion.proofs.store_spaceless.Goals as goal

turn : (t₀ t src : List ℕ) (at i v : ℕ) → at + i < length t₀ → i < length src → v ≡ no_space (get_or src i 0) → t ≡ paste t₀ at (map no_space src) i
    → set t (at + i) v ≡ paste t₀ at (map no_space src) (i + 1)
turn t₀ t src at i v h k w e =
    let x : List ℕ = map no_space src in
    ap (λ (l : List ℕ). set l (at + i) v) e
    ∙ ap (λ (b : ℕ). set (paste t₀ at x i) (at + i) b) (w ∙ sym (get_or-map no_space src i 0))
    ∙ paste-suc t₀ at x i 0 h (omega (arith, length-map src no_space))
    ∙ ap (λ (n : ℕ). paste t₀ at x n) (sym (add-one i))

done : (t₀ t src : List ℕ) (at i : ℕ) → t ≡ paste t₀ at (map no_space src) i → i ≡ length src → t ≡ stored t₀ at (map no_space src)
done t₀ t src at i e h =
    let x : List ℕ = map no_space src in
    e
    ∙ ap (λ (n : ℕ). paste t₀ at x n) (h ∙ sym (length-map src no_space))
    ∙ append_assoc (take at t₀) (take (length x) x) (drop (at + length x) t₀)
    ∙ ap (λ (l : List ℕ). take at t₀ ++ (l ++ drop (at + length x) t₀)) (take-length x)

pub loop-i-init : goal.loop-i-init
loop-i-init c =
    let entry = c.args in
    paste-zero entry.t.now entry.at (map no_space entry.src.now)

pub loop-i-preserved : goal.loop-i-preserved
loop-i-preserved c =
    let entry = c.args in
    let loop = c.loop-i in
    turn entry.t.now loop.t entry.src.now entry.at loop.i c.no_space.result (omega arith) (omega arith) c.no_space.ensures loop.invariant

pub returns : goal.returns
returns c =
    let entry = c.args in
    done entry.t.now c.loop-i.t entry.src.now entry.at c.loop-i.i c.loop-i.invariant (omega arith)
