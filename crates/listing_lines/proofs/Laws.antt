-- Texts one behind the other.
-- Assumes nothing.
use Prim.Native.Nat.{ℕ, ◌+◌, ◌≤◌, ◌<◌}
use mathlib.Core.Path.{◌≡◌, refl, ap, subst}
use mathlib.Core.List.{List, [], ◌∷◌, ◌++◌, append_assoc}
use Rattle.std.specs.Prelude.{Option, Some, None}
use native.Mathlib.Omega.{arith}
use lib.ListN.{length, drop, get_or, drop_of_length-le, length-append}
use Rattle.lists.proofs.Rest.{rest_at}
use lib.IntN.{ℤ, nat_abs}
use Rattle.bits.proofs.Signed.{Below}
use Rattle.template.specs.Decimal.{decimal}
use Rattle.lists.specs.Quoted.{bytes}
use Rattle.lists.specs.Checked.{refused, line}
use Rattle.lists.specs.Refusal.{Refusal, number}
use Rattle.engine.specs.Listing.{shown_byte, escaped, signed, line_of, printed as printed_of}
use Rattle.insertion.specs.Append.{Placed, Appended}
use Rattle.insertion.proofs.Laws.{appended_both, appended_none}
use Rattle.listing_lines.specs.Lines.{refusal_line}

-- ---- one text behind another

module _ {x l l₁ : List ℕ} {used k : ℕ} where
  -- the first had room
  pub behind : Placed x l used k l₁ → (y : List ℕ) (r : Option ℕ) (l₂ : List ℕ) → Appended y l₁ k r l₂ → Appended (x ++ y) l used r l₂
  behind p y r l₂ q = appended_both x y l used k l₁ p r l₂ q

pub appended_as : (x y l : List ℕ) (used : ℕ) (r : Option ℕ) (l₁ : List ℕ) → x ≡ y → Appended x l used r l₁ → Appended y l used r l₁
appended_as x y l used r l₁ e a = subst (λ (z : List ℕ). Appended z l used r l₁) e a

-- ---- what is left to write

-- z behind the first `used` bytes of l makes it y behind the first used₀ of l₀
abbrev pub Leads : (y l₀ : List ℕ) (used₀ : ℕ) (z l : List ℕ) (used : ℕ) → Type 0
Leads y l₀ used₀ z l used = (r : Option ℕ) (l₂ : List ℕ) → Appended z l used r l₂ → Appended y l₀ used₀ r l₂

module _ (y l₀ : List ℕ) (used₀ : ℕ) (l : List ℕ) (used : ℕ) where
  pub leads_more : (a b : List ℕ) → Leads y l₀ used₀ (a ++ b) l used → (k : ℕ) (l₁ : List ℕ) → Placed a l used k l₁ → Leads y l₀ used₀ b l₁ k
  leads_more a b f k l₁ p r l₂ q = f r l₂ (behind p b r l₂ q)

  pub leads_full : (a b : List ℕ) → Leads y l₀ used₀ (a ++ b) l used → length l < used + length a → length l₀ < used₀ + length y
  leads_full a b f h = f None l (omega (arith, length-append a b))

  pub leads_last : used ≤ length l → Leads y l₀ used₀ [] l used → Placed y l₀ used₀ used l
  leads_last h f = f (Some used) l (appended_none l used h)

-- ---- a text, byte by byte

escaped-next : (t : List ℕ) (i : ℕ) → i < length t → escaped (drop i t) ≡ shown_byte (get_or t i 0) ++ escaped (drop (i + 1) t)
unfolding escaped
escaped-next t i h = ap escaped (rest_at t i h)

module _ (y l₀ : List ℕ) (used₀ : ℕ) (t : List ℕ) (i : ℕ) (l : List ℕ) (used : ℕ) (f : Leads y l₀ used₀ (escaped (drop i t)) l used) where
  parted : i < length t → Leads y l₀ used₀ (shown_byte (get_or t i 0) ++ escaped (drop (i + 1) t)) l used
  parted h = subst (λ (z : List ℕ). Leads y l₀ used₀ z l used) (escaped-next t i h) f

  pub leads_next : i < length t → (k : ℕ) (l₁ : List ℕ) → Placed (shown_byte (get_or t i 0)) l used k l₁ → Leads y l₀ used₀ (escaped (drop (i + 1) t)) l₁ k
  leads_next h k l₁ p = leads_more y l₀ used₀ l used (shown_byte (get_or t i 0)) (escaped (drop (i + 1) t)) (parted h) k l₁ p

  pub leads_stop : i < length t → length l < used + length (shown_byte (get_or t i 0)) → length l₀ < used₀ + length y
  leads_stop h = leads_full y l₀ used₀ l used (shown_byte (get_or t i 0)) (escaped (drop (i + 1) t)) (parted h)

  pub leads_end : used ≤ length l → length t ≤ i → Placed y l₀ used₀ used l
  unfolding escaped
  leads_end r h = leads_last y l₀ used₀ l used r (subst (λ (z : List ℕ). Leads y l₀ used₀ (escaped z) l used) (drop_of_length-le t h) f)

-- ---- a line

pub line_size : (word text : List ℕ) → length (line_of word text) ≡ length word + length text + 2
unfolding line_of
line_size word text = omega (arith, length-append word (32 ∷ (text ++ (10 ∷ []))), length-append text (10 ∷ []))

module _ (word : List ℕ) {text l l₁ l₂ : List ℕ} {used k n : ℕ} where
  -- a word and a blank, a text, a newline
  pub line_behind : Placed (word ++ (32 ∷ [])) l used k l₁ → Placed text l₁ k n l₂ → (r : Option ℕ) (l₃ : List ℕ) → Appended (10 ∷ []) l₂ n r l₃ → Appended (line_of word text) l used r l₃
  unfolding line_of
  line_behind p q r l₃ a =
      appended_as ((word ++ (32 ∷ [])) ++ (text ++ (10 ∷ []))) (line_of word text) l used r l₃ (append_assoc word (32 ∷ []) (text ++ (10 ∷ [])))
      (behind p (text ++ (10 ∷ [])) r l₃ (behind q (10 ∷ []) r l₃ a))

-- the line of a refusal is all that is listed of it
pub refusal-printed : (n : ℕ) (f : Refusal) → refusal_line (number f) n ≡ printed_of (refused (line n f))
unfolding printed_of bytes
refusal-printed n f = refl

-- ---- numbers

pub signed_below : (z : ℤ) → Below z → 45 ∷ decimal (nat_abs z) ≡ signed z
signed_below z b = rw b.is refl
