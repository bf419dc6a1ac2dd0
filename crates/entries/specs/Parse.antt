-- Reading a list of bytes from its front.
-- Assumes nothing.
use Rattle.std.specs.Prelude.{ℕ, zero, suc, Bool, true, false, List, [], ◌∷◌}

-- what was read, with the bytes behind it; or a fault
pub data Parse (A : Type 0) : Type 0 where
  got : A → List ℕ → Parse A
  bad : Parse A

-- go on with what was read
abbrev pub bind : {A B : Type 0} → Parse A → (A → List ℕ → Parse B) → Parse B
bind (got a r) f = f a r
bind bad f = bad

-- what was read, if the test holds
abbrev pub keep : {A : Type 0} → Bool → A → List ℕ → Parse A
keep true a r = got a r
keep false a r = bad

-- n entries, one behind the other
abbrev pub many : {A : Type 0} → (List ℕ → Parse A) → ℕ → List ℕ → Parse (List A)
many one zero bs = got [] bs
many one (suc n) bs = bind (one bs) (λ a r. bind (many one n r) (λ xs q. got (a ∷ xs) q))
