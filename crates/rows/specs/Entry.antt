-- One entry of a record as code reads it: the lengths in its head, and the places of its parts.
-- Assumes nothing.
use Rattle.std.specs.Prelude.{ℕ, ◌+◌, ◌≤◌, ◌<◌, ◌≡◌, List, length, take, drop, get_or}
use Rattle.std.specs.Prelude.{Option, None, Some}
use Rattle.bits.specs.Bits.{number_at}
use Rattle.rows.specs.declared.Kind.{Kind}
use Rattle.rows.specs.declared.Kind.TheVariants.{Text, Property, Run, Reply}
use Rattle.rows.specs.declared.RunHead.{RunHead}
use Rattle.rows.specs.declared.ReplyHead.{ReplyHead}
use Rattle.rows.specs.declared.Shape.{Shape}
use Rattle.rows.specs.declared.Entry.{Entry}

-- the bytes before the name
abbrev pub head_len : Kind → ℕ
head_len Text = 1
head_len Property = 2
head_len Run = 2
head_len Reply = 3

-- the length of the name, of an entry at the front: the text, the key, the template, the command
unfoldable pub name_len : Kind → List ℕ → ℕ
name_len Text bs = get_or bs 0 0
name_len Property bs = number_at (take 2 bs) 0 7
name_len Run bs = number_at (take 2 bs) 6 9
name_len Reply bs = number_at (take 3 bs) 1 10

-- the length of what follows the name: the value, the output
unfoldable pub rest_len : Kind → List ℕ → ℕ
rest_len Text bs = 0
rest_len Property bs = number_at (take 2 bs) 7 9
rest_len Run bs = 0
rest_len Reply bs = number_at (take 3 bs) 11 10

abbrev pub size : Kind → List ℕ → ℕ
size kind bs = head_len kind + name_len kind bs + rest_len kind bs

abbrev pub name : Kind → List ℕ → List ℕ
name kind bs = take (name_len kind bs) (drop (head_len kind) bs)

abbrev pub rest : Kind → List ℕ → List ℕ
rest kind bs = take (rest_len kind bs) (drop (head_len kind + name_len kind bs) bs)

-- the fields of a run's head
pub record RunRead (head : List ℕ) (r : RunHead) : Type 0 where
  pub builtin : r.builtin ≡ number_at head 0 1
  pub place : r.place ≡ number_at head 1 5
  pub len : r.len ≡ number_at head 6 9
  pub unused : r.unused ≡ number_at head 15 1
  pub few : r.len < 512

-- the fields of a reply's head
pub record ReplyRead (head : List ℕ) (r : ReplyHead) : Type 0 where
  pub success : r.success ≡ number_at head 0 1
  pub command : r.command ≡ number_at head 1 10
  pub output : r.output ≡ number_at head 11 10
  pub unused : r.unused ≡ number_at head 21 3
  pub command_few : r.command < 1024
  pub output_few : r.output < 1024

pub record Shaped (kind : Kind) (bs : List ℕ) (r : Shape) : Type 0 where
  pub name : r.name ≡ name_len kind bs
  pub rest : r.rest ≡ rest_len kind bs
  pub few : r.name + r.rest < 2048

-- the entry at place p of a record, inside it
pub record Placed (kind : Kind) (l : List ℕ) (p : ℕ) (r : Entry) : Type 0 where
  pub start : r.name ≡ p + head_len kind
  pub middle : r.rest ≡ r.name + name_len kind (drop p l)
  pub end : r.end ≡ r.rest + rest_len kind (drop p l)
  pub within : r.end ≤ length l

abbrev pub Read : Kind → List ℕ → ℕ → Option Entry → Type 0
Read kind l p (Some r) = Placed kind l p r
Read kind l p None = length (drop p l) < size kind (drop p l)
