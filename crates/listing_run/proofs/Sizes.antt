-- No listing is longer than 86,873 bytes.
-- Assumes nothing.
use Prim.Native.Nat.{ℕ, zero, suc, ◌+◌, ◌-◌, ◌*◌, ◌/◌, ◌%◌, ◌≤◌}
use mathlib.Core.Path.{◌≡◌}
use mathlib.Core.Bool.{Bool, true, false, not, ◌&&◌}
use mathlib.Core.List.{List, [], ◌∷◌, ◌++◌}
use Rattle.std.specs.Prelude.{Option, None, Some}
use native.Mathlib.Omega.{arith}
use borrow.Author.Tests.{leb-true}
use lib.Dec.{eqb, leb, ltb}
use lib.IntN.{ℤ, pos, negsuc}
use Rattle.bits.specs.Signed.{to_signed}
use lib.ListN.{length, length-append}
use Rattle.lists.specs.Lists.{pick}
use Rattle.lists.specs.Bytes.{Bytes, between, clean, ok_text}
use Rattle.lists.specs.Checked.{Checked, refused, ok, Holds, Placed, line, on_line, found}
use Rattle.lists.specs.Refusal.{Refusal, number, device_bad}
use Rattle.lists.specs.Sizes.{fullest_outcome, most_link, most_owner, most_tag, most_key, most_value}
use Rattle.lists.specs.Quoted.{bytes}
use Rattle.lists.proofs.Tests.{and_both}
use Rattle.lists.proofs.Lists.{cat-size}
use Rattle.lists.proofs.Checked.{holds-bind, holds-found, holds-on_line}
use Rattle.template.specs.Decimal.{decimal, decimal_on}
use Rattle.entries.specs.Entry.{Property, ok_prop}
use Rattle.device.specs.Device as D
use Rattle.device.specs.Device.{Device, chain}
use Rattle.outcome.specs.Content.{ok_link, ok_owner, ok_name}
use Rattle.outcome.specs.State as O
use Rattle.outcome.specs.State.{State, ok_tag}
use Rattle.engine.specs.Operations.{run_checked, Command, commands}
use Rattle.engine.specs.Listing.{shown_byte, hex, escaped, signed, four_octal, line_of, mode_line, set_line, watch_line, env_line, command_line, listing_of, listed, printed, listing_from}
use Rattle.engine.proofs.Sizes.{Made, short_text, commands-made}
use Rattle.listing_run.proofs.Laws.{Ends, run_ends}

-- ---- texts

shown_size : (b : ℕ) → length (shown_byte b) ≤ 4
shown_size b = go (between 32 126 b && not (eqb b 92))
  where
    go : (t : Bool) → length (pick t (b ∷ []) (92 ∷ 120 ∷ hex (b / 16) ∷ hex (b % 16) ∷ [])) ≤ 4
    go true = omega arith
    go false = omega arith

escaped-size : (x : List ℕ) → length (escaped x) ≤ 4 * length x
unfolding escaped
escaped-size [] = omega arith
escaped-size (b ∷ x) = omega (arith, length-append (shown_byte b) (escaped x), shown_size b, escaped-size x)

decimal-on : (k n : ℕ) (done : List ℕ) → length (decimal_on k n done) ≤ k + length done
unfolding decimal_on
decimal-on zero n done = omega arith
decimal-on (suc k) n done = go (ltb n 10) (decimal-on k (n / 10) ((48 + n % 10) ∷ done))
  where
    go : (t : Bool) → length (decimal_on k (n / 10) ((48 + n % 10) ∷ done)) ≤ k + suc (length done)
        → length {A = ℕ} (elim t [ true ↦ (48 + n) ∷ done | false ↦ decimal_on k (n / 10) ((48 + n % 10) ∷ done) ]) ≤ suc k + length done
    go true h = omega arith
    go false h = omega (arith, h)

decimal-size : (n : ℕ) → length (decimal n) ≤ 10
decimal-size n = omega (arith, decimal-on 10 n [])

signed-size : (z : ℤ) → length (signed z) ≤ 11
signed-size (pos n) = omega (arith, decimal-size n)
signed-size (negsuc n) = omega (arith, decimal-size (suc n))

-- ---- lines

line-size : (word text : List ℕ) → length (line_of word text) ≡ length word + length text + 2
unfolding line_of
line-size word text = omega (arith, length-append word (32 ∷ (text ++ (10 ∷ []))), length-append text (10 ∷ []))

text-size : (word x : List ℕ) → length (line_of word (escaped x)) ≤ length word + 4 * length x + 2
text-size word x = omega (arith, line-size word (escaped x), escaped-size x)

mode-size : (m : Option ℕ) → length (mode_line m) ≤ 10
unfolding bytes
mode-size None = omega arith
mode-size (Some m) = omega (arith, line-size (bytes "mode") (four_octal m))

set-size : (word x : List ℕ) → length (set_line word x) ≤ length word + 4 * length x + 2
set-size word [] = omega arith
set-size word (b ∷ x) = text-size word (b ∷ x)

watch_size : (w : ℕ) → length (watch_line w) ≤ 8
unfolding bytes
watch_size w = go (eqb w 1) (eqb w 2)
  where
    go : (a b : Bool) → length {A = ℕ} (pick a (119 ∷ 97 ∷ 116 ∷ 99 ∷ 104 ∷ 10 ∷ []) (pick b (110 ∷ 111 ∷ 119 ∷ 97 ∷ 116 ∷ 99 ∷ 104 ∷ 10 ∷ []) [])) ≤ 8
    go true b = omega arith
    go false true = omega arith
    go false false = omega arith

env-size : (p : Property) → ok_prop p ≡ true → length (env_line p) ≤ 1286
unfolding bytes
env-size p h =
    let (k, v) = and_both (ok_text most_key p.key) (leb (length p.value) most_value && clean p.value) h in
    let (k₁, k₂) = and_both (leb 1 (length p.key)) (leb (length p.key) most_key && clean p.key) k in
    let a = leb-true (length p.key) most_key (and_both (leb (length p.key) most_key) (clean p.key) k₂).0 in
    let b = leb-true (length p.value) most_value (and_both (leb (length p.value) most_value) (clean p.value) v).0 in
    omega (arith, line-size (bytes "env") (escaped p.key ++ (61 ∷ escaped p.value)), length-append (escaped p.key) (61 ∷ escaped p.value), escaped-size p.key, escaped-size p.value, a, b)

link_size : (x : List ℕ) → ok_link x ≡ true → length (line_of (bytes "link") (escaped x)) ≤ 518
unfolding bytes
link_size x h =
    let n = (and_both (ok_name x) (clean x) h).0 in
    let a = leb-true (length x) most_link (and_both (leb (length x) most_link) _ n).0 in
    omega (arith, text-size (bytes "link") x, a)

tag_size : (x : List ℕ) → ok_tag x ≡ true → length (line_of (bytes "tag") (escaped x)) ≤ 261
unfolding bytes
tag_size x h =
    let n = (and_both (leb 1 (length x)) (leb (length x) most_tag && clean x) h).1 in
    let a = leb-true (length x) most_tag (and_both (leb (length x) most_tag) (clean x) n).0 in
    omega (arith, text-size (bytes "tag") x, a)

command_size : (c : Command) → short_text c ≡ true → length (command_line c) ≤ 2057
unfolding bytes
command_size c h = go c.builtin
  where
    go : (b : Bool) → length (line_of (pick b (bytes "builtin") (bytes "program")) (escaped c.text)) ≤ 2057
    go true = omega (arith, text-size (bytes "builtin") c.text, leb-true (length c.text) 512 h)
    go false = omega (arith, text-size (bytes "program") c.text, leb-true (length c.text) 512 h)

owner-size : (word x : List ℕ) → ok_owner x ≡ true → length (set_line word x) ≤ length word + 130
owner-size word x h = omega (arith, set-size word x, leb-true (length x) most_owner (and_both (leb (length x) most_owner) _ h).0)

-- ---- listings

listing-size : (visited tried n : ℕ) (s : State) (cs : List Command) → O.Good n s → Made (length s.runs) cs → length (listing_of visited tried s cs) ≤ 86873
unfolding listing_of bytes
listing-size visited tried n s cs g m =
    let a = line-size (bytes "visited") (decimal visited) in
    let k = line-size (bytes "tried") (decimal tried) in
    let b = line-size (bytes "priority") (signed (to_signed s.priority)) in
    let l = cat-size (λ x. line_of (bytes "link") (escaped x)) ok_link 518 link_size s.links g.links.each in
    let p = cat-size env_line ok_prop 1286 env-size s.properties g.properties.each in
    let t = cat-size (λ x. line_of (bytes "tag") (escaped x)) ok_tag 261 tag_size s.tags g.tags.each in
    let c =
    cat-size command_line short_text 2057 command_size cs m.each in
    simp length-append
    (omega (
      arith,
      a,
      k,
      b,
      l,
      p,
      t,
      c,
      decimal-size visited,
      decimal-size tried,
      signed-size (to_signed s.priority),
      mode-size s.mode,
      owner-size (bytes "owner")
          s.owner g.owner,
      owner-size (bytes "group") s.group g.group,
      watch_size s.watch,
      g.links.few,
      g.properties.few,
      g.tags.few,
      g.runs.few,
      m.count,
    ))

refusal-size : (n : ℕ) (f : Refusal) → length (printed (refused (line n f))) ≤ 35
unfolding printed bytes
refusal-size n f = simp length-append (omega (arith, decimal-size (number f), decimal-size n))

printed-size : (c : Checked (Placed Refusal) (List ℕ)) → Holds (λ (l : List ℕ). length l ≤ 86873) c → length (printed c) ≤ 86873
unfolding printed
printed-size (refused (line n f)) h = omega (arith, refusal-size n f)
printed-size (ok l) h = h

pub listing-fits : (text dev out sheet : List ℕ) → Bytes out → Bytes sheet → length (listing_from text dev out sheet) ≤ 86873
unfolding listing_from listed
listing-fits text dev out sheet by bs =
    let Q : List ℕ → Type 0 = λ l. length l ≤ 86873 in
    printed-size (listed text dev out sheet)
    (holds-bind (Ends text dev out sheet) Q (run_checked text dev out sheet fullest_outcome) _ (run_ends text dev out sheet by bs) λ h w.
    holds-bind (λ (d : Device). D.decode dev ≡ Some d) Q (found (D.decode dev) (line 0 device_bad)) _ (holds-found (D.decode dev) (line 0 device_bad)) λ d f.
    holds-bind (Made (length h.state.runs)) Q (on_line 0 (commands d h.state.properties h.state.output h.state.runs)) _
    (holds-on_line (Made (length h.state.runs)) 0 (commands d h.state.properties h.state.output h.state.runs) (commands-made d h.state.properties h.state.output h.state.runs)) λ cs m.
    listing-size h.visited h.tried (length (chain w.0)) h.state cs w.2 m)
