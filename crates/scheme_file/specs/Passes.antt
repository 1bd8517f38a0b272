-- What the contracts of private functions cite.
use Rattle.std.specs.Prelude.{◌≡◌, ℕ, Bool, Result, ◌+◌, ◌^◌, ◌<◌, ◌≤◌, ◌⊎◌, List, [], ◌∷◌, ◌++◌, map, length, take, drop}
use Rattle.std.specs.List.{AllByRecursion}
use Rattle.sets.specs.declared.Set.{Set}
use Rattle.sets.specs.Member.{Has, Members}
use Rattle.std.specs.Borrow.{MutBor}
use Rattle.scheme.specs.declared.Scheme.{Scheme}
use Rattle.scheme.specs.declared.Work.{Work}
use Rattle.scheme.specs.declared.refusals.Refusal.{Refusal}
use Rattle.scheme.specs.Edits.{Added}
use Rattle.scheme.specs.Task.{Task, task_of}
use Rattle.scheme_file.specs.declared.kinds.Kind.TheVariants.{Head}
use Rattle.scheme_file.specs.declared.stages.Stage.TheVariants.{Closed}
use Rattle.scheme_file.specs.declared.places.Place.{Place}
use Rattle.scheme_file.specs.declared.putting.Output.{Output}
use Rattle.scheme_file.specs.declared.rows.ItemRow.{ItemRow}
use Rattle.scheme_file.specs.declared.rows.WorkRow.{WorkRow}
use Rattle.scheme_file.specs.Bytes.{le, value}
use Rattle.scheme_file.specs.Contents.{Giving, Lies, Rises, SoundEntry, SoundItem, SoundName, bytes_at, entries, item_in}
use Rattle.scheme_file.specs.Format.{Named, Record, bytes_of, encode, item_record, mark, work_record}
use Rattle.scheme_file.specs.Kinds.{highest, lowest}
use Rattle.scheme_file.specs.Rules.{Goes, Kept, after, record_rules, size, start}

-- ---- the checking pass

-- a scheme holds no more than 64 items and works
pub record Sane (p : Place) : Type 0 where
  pub items : p.items ≤ p.least
  pub least : p.least ≤ 64
  pub works : p.works ≤ 64

-- a good record of n bytes goes on from p to q
pub record Stepped (p : Place) (rest : List ℕ) (q : Place) (n : ℕ) : Type 0 where
  pub next : Record
  pub kept : Kept (record_rules p next.kind next.body)
  pub place : q ≡ after p next.kind next.body
  pub front : rest ≡ encode next ++ drop n rest
  pub long : n ≡ length (encode next)
  pub some : 0 < n
  pub within : n ≤ length rest

-- good records go up to the offset `at`, where the place is p, and n of them
pub record Upto (bytes : List ℕ) (p : Place) (at n : ℕ) : Type 0 where
  pub before : List Record
  pub good : Goes start before p
  pub split : bytes ≡ bytes_of before ++ drop at bytes
  pub offset : at ≡ length (bytes_of before)
  pub number : n ≡ length before
  pub sane : Sane p
  pub within : at ≤ length bytes
  pub fewer : n ≤ at

-- n good records make up all the bytes, and the end record is the last
pub record Whole (bytes : List ℕ) (p : Place) (n : ℕ) : Type 0 where
  pub all : List Record
  pub good : Goes start all p
  pub closed : p.stage ≡ Closed
  pub same : bytes ≡ bytes_of all
  pub number : n ≡ length all
  pub sane : Sane p

-- ---- the filling pass

-- from the offset `at`, where the place is p, good records finish the file
pub record Ahead (bytes : List ℕ) (at : ℕ) (p last : Place) : Type 0 where
  pub left : List Record
  pub good : Goes p left last
  pub closed : last.stage ≡ Closed
  pub same : drop at bytes ≡ bytes_of left

-- an item, a work or the standing set comes next
pub record Between (p : Place) : Type 0 where
  pub low : 2 ≤ lowest p.stage
  pub high : highest p.stage ≤ 4

-- the least number after those of a list
abbrev pub above : ℕ → List Named → ℕ
above n [] = n
above n (i ∷ items) = above (i.number + 1) items

-- the rows are those of the items up to `at`
pub record Listed (bytes : List ℕ) (rows : List ItemRow) (at : ℕ) (p : Place) : Type 0 where
  pub front : bytes ≡ bytes_of (mark Head ∷ map item_record (map (item_in bytes) rows)) ++ drop at bytes
  pub rising : Rises 0 (map (item_in bytes) rows)
  pub least : p.least ≡ above 0 (map (item_in bytes) rows)
  pub sound : AllByRecursion SoundItem (map (item_in bytes) rows)
  pub lie : AllByRecursion (λ (r : ItemRow). Lies bytes r.name) rows
  pub items : p.items ≡ length rows
  pub works : p.works ≡ 0

-- the items up to `at` are filled in, and a file that has n items and m works goes on from there
abbrev pub Itemed : List ℕ → List ItemRow → ℕ → ℕ → ℕ → Type 0
Itemed bytes rows at n m =
    (p : Place) × (last : Place) × Ahead bytes at p last × Between p × Listed bytes rows at p × (last.items ≡ n) × (last.works ≡ m)

-- the rows are those of the works from `from` to `at`
pub record Worked (bytes : List ℕ) (from : ℕ) (works : List Work) (rows : List WorkRow) (at : ℕ) (p : Place) : Type 0 where
  pub front : drop from bytes ≡ bytes_of (map work_record (entries bytes works rows)) ++ drop at bytes
  pub sound : AllByRecursion SoundEntry (entries bytes works rows)
  pub giving : AllByRecursion Giving (entries bytes works rows)
  pub lie : AllByRecursion (λ (r : WorkRow). Lies bytes r.name) rows
  pub level : length works ≡ length rows
  pub count : p.works ≡ length rows
  pub few : length rows ≤ 64

-- the works up to `at` are filled in, and a file that has m of them goes on from there, with no more items
abbrev pub Entering : List ℕ → ℕ → List Work → List WorkRow → ℕ → ℕ → Type 0
Entering bytes from works rows at m =
    (p : Place) × (last : Place) × Ahead bytes at p last × Between p × Worked bytes from works rows at p
    × (last.items ≡ p.items) × (last.works ≡ m)

-- the work at an offset, and its row
pub record WorkAt (bytes : List ℕ) (at : ℕ) (w : Work) : Type 0 where
  pub needs : le 8 w.needs.bits ≡ take 8 (drop (at + 4) bytes)
  pub gives : le 8 w.gives.bits ≡ take 8 (drop (at + 12) bytes)
  pub given : w.gives.bits ≡ value (take 8 (drop (at + 12) bytes))
  pub needs_fit : w.needs.bits < 2 ^ 64
  pub gives_fit : w.gives.bits < 2 ^ 64

pub record RowAt (bytes : List ℕ) (at : ℕ) (r : WorkRow) : Type 0 where
  pub pounds : le 2 r.pounds ≡ take 2 (drop (at + 20) bytes)
  pub hours : le 2 r.hours ≡ take 2 (drop (at + 22) bytes)
  pub pounds_fit : r.pounds < 65536
  pub hours_fit : r.hours < 65536
  pub start : r.name.at ≡ at + 24
  pub len : r.name.len + 22 ≡ size (drop at bytes)

-- of the items of a set, those in `held` have been added to a set that was empty, and those in `rest` are to come
abbrev pub Adding : Set → Set → Set → Type 0
Adding items held rest = Members items (λ k. Has held k ⊎ Has rest k)

-- a set of a task: how it is read, and how it is put
pub record Part : Type 0 where
  pub get : Task → Set
  pub put : Task → Set → Task
  pub same : (k : Task) → put k (get k) ≡ k
  pub again : (k : Task) (a b : Set) → put (put k a) b ≡ put k b

-- each call adds an item to that set, and changes nothing else
abbrev pub Adds : Part → (MutBor Scheme → ℕ → Result Bool Refusal → MutBor Scheme → Type 0) → Type 0
Adds part post =
    (s : MutBor Scheme) (i : ℕ) (r : Result Bool Refusal) (t : MutBor Scheme) → post s i r t →
    Added (part.get (task_of s.now)) i r (part.get (task_of t.now)) × (task_of t.now ≡ part.put (task_of s.now) (part.get (task_of t.now)))

-- ---- the rows to be written

pub record ItemFits (text : List ℕ) (least : ℕ) (r : ItemRow) : Type 0 where
  pub above : least ≤ r.number
  pub low : r.number ≤ 63
  pub lies : Lies text r.name
  pub name : SoundName (bytes_at text r.name)

pub record WorkFits (text : List ℕ) (r : WorkRow) : Type 0 where
  pub pounds : r.pounds < 65536
  pub hours : r.hours < 65536
  pub lies : Lies text r.name
  pub name : SoundName (bytes_at text r.name)

pub record ItemsFit (items : List ItemRow) (text : List ℕ) : Type 0 where
  pub lie : AllByRecursion (λ (r : ItemRow). Lies text r.name) items
  pub rising : Rises 0 (map (item_in text) items)
  pub sound : AllByRecursion SoundItem (map (item_in text) items)

pub record WorksFit (works : List Work) (rows : List WorkRow) (text : List ℕ) : Type 0 where
  pub level : length rows ≡ length works
  pub lie : AllByRecursion (λ (r : WorkRow). Lies text r.name) rows
  pub sound : AllByRecursion SoundEntry (entries text works rows)

-- ---- bytes put into others

-- from `at` on xs are written over those that were there, up to `next`
pub record Wrote (was : List ℕ) (at : ℕ) (xs out : List ℕ) (next : ℕ) : Type 0 where
  pub same : out ≡ take at was ++ (xs ++ drop (at + length xs) was)
  pub end : next ≡ at + length xs
  pub room : at + length xs ≤ length was

-- there is room for n more bytes
abbrev pub Room : Output → ℕ → Type 0
Room out n = out.at + n ≤ length out.bytes.now

-- xs are put behind those that were put, into the same lent bytes and beside the same text
pub record Put (was : Output) (xs : List ℕ) (out : Output) : Type 0 where
  pub wrote : Wrote was.bytes.now was.at xs out.bytes.now out.at
  pub lent : out.bytes.ghost_name ≡ was.bytes.ghost_name
  pub text : out.text.now ≡ was.text.now
