-- The format: what a file holds, and the bytes that it is written in.
use Rattle.std.specs.Prelude.{ℕ, ◌+◌, List, [], ◌∷◌, ◌++◌, map, length}
use Rattle.std.specs.List.{flat_map}
use Rattle.sets.specs.declared.Set.{Set}
use Rattle.scheme.specs.declared.Work as works
use Rattle.scheme_file.specs.declared.kinds.Kind.{Kind}
use Rattle.scheme_file.specs.declared.kinds.Kind.TheVariants.{Head, Item, Work, Standing, Wanted, End}
use Rattle.scheme_file.specs.Bytes.{le}
use Rattle.scheme_file.specs.Kinds.{code_of}

-- A record: its length, which counts what follows it, its kind and its body.
pub record Record : Type 0 where
  pub kind : Kind
  pub body : List ℕ

abbrev pub encode : Record → List ℕ
encode r = le 2 (2 + length r.body) ++ (le 2 (code_of r.kind) ++ r.body)

abbrev pub bytes_of : List Record → List ℕ
bytes_of rs = flat_map encode rs

-- an item with its name
pub record Named : Type 0 where
  pub number : ℕ
  pub name : List ℕ

-- a work with its price, its time and its name
pub record Entry : Type 0 where
  pub work : works.Work
  pub pounds : ℕ
  pub hours : ℕ
  pub name : List ℕ

-- What a file holds.
pub record Contents : Type 0 where
  pub items : List Named
  pub works : List Entry
  pub standing : Set
  pub wanted : Set

abbrev pub item_record : Named → Record
item_record i = record { kind = Item; body = i.number ∷ i.name }

abbrev pub work_record : Entry → Record
work_record e = record {
  kind = Work;
  body = le 8 e.work.needs.bits ++ (le 8 e.work.gives.bits ++ (le 2 e.pounds ++ (le 2 e.hours ++ e.name)));
}

abbrev pub set_record : Kind → Set → Record
set_record k s = record { kind = k; body = le 8 s.bits }

abbrev pub mark : Kind → Record
mark k = record { kind = k; body = [] }

-- The records of a file, in their order.
abbrev pub records : Contents → List Record
records c =
    mark Head
    ∷ (map item_record c.items ++ (map work_record c.works
    ++ (set_record Standing c.standing ∷ set_record Wanted c.wanted ∷ mark End ∷ [])))

-- The file.
abbrev pub file : Contents → List ℕ
file c = bytes_of (records c)
