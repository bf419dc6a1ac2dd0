-- Document 02, Item 7: which record holds a link, and which others claim it.
-- Assumes nothing.
use Rattle.std.specs.Prelude.{ℕ, suc, Bool, List, [], ◌∷◌, map, eqb, ℤ}
use Rattle.std.specs.Int.Signed.{lt_z}
use Rattle.lists.specs.Lists.{pick, reject, cat}
use Rattle.lists.specs.Bytes.{same_bytes, among}
use Rattle.bits.specs.Signed.{to_signed}
use Rattle.outcome.specs.State.{State}

-- ---- names

-- without what stands there a second time
abbrev pub firsts : List (List ℕ) → List (List ℕ)
firsts [] = []
firsts (x ∷ xs) = x ∷ reject (λ y. same_bytes y x) (firsts xs)

-- the links of all records: in lent order, and within a record in its own
abbrev pub links_of : List State → List (List ℕ)
links_of ss = cat (λ (s : State). s.links) ss

-- ---- claimants

abbrev pub claims : List ℕ → State → Bool
claims x s = among x s.links

-- the link priority of document 01, 32 bits in two's complement
abbrev pub rank : State → ℤ
rank s = to_signed s.priority

-- a record that claims a name: where it stands among the records, and its link priority
pub record Claimant : Type 0 where
  pub position : ℕ
  pub priority : ℤ

abbrev pub claimant : ℕ → State → Claimant
claimant n s = record { position = n; priority = rank s }

-- those of a name among records of which the first has position n
abbrev pub claimants : List ℕ → ℕ → List State → List Claimant
claimants x n [] = []
claimants x n (s ∷ ss) = pick (claims x s) (claimant n s ∷ claimants x (suc n) ss) (claimants x (suc n) ss)

abbrev pub positions : List Claimant → List ℕ
positions cs = map (λ (c : Claimant). c.position) cs

-- ---- the holder

-- of two, the second only if its priority is the higher
abbrev pub higher : Claimant → Claimant → Claimant
higher c d = pick (lt_z c.priority d.priority) d c

abbrev pub highest : Claimant → List Claimant → Claimant
highest c [] = c
highest c (d ∷ ds) = highest (higher c d) ds

-- its position, or 0 without claimants
abbrev pub holder_of : List Claimant → ℕ
holder_of [] = 0
holder_of (c ∷ cs) = (highest c cs).position

-- ---- the list

-- a name, the position of its holder, and those of all who claim it besides
pub record Listed : Type 0 where
  pub name : List ℕ
  pub holder : ℕ
  pub others : List ℕ

abbrev pub listed_by : List ℕ → List Claimant → Listed
listed_by x cs = record { name = x; holder = holder_of cs; others = reject (λ p. eqb p (holder_of cs)) (positions cs) }

-- a row for each name that is claimed, as the names are first met
unfoldable pub contest : List State → List Listed
contest ss = map (λ x. listed_by x (claimants x 1 ss)) (firsts (links_of ss))

abbrev pub names : List Listed → List (List ℕ)
names es = map (λ (e : Listed). e.name) es
