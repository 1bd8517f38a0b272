-- What a scheme with its rows holds, as the contents of a file.
use Rattle.std.specs.Prelude.{◌≡◌, ℕ, ◌+◌, ◌^◌, ◌<◌, ◌≤◌, ◌⊎◌, List, [], ◌∷◌, map, length, take, drop}
use Rattle.std.specs.List.{AllByRecursion}
use Rattle.sets.specs.Member.{none}
use Rattle.scheme.specs.declared.Work.{Work}
use Rattle.scheme.specs.Task.{Task}
use Rattle.scheme_file.specs.declared.causes.Cause.{Cause}
use Rattle.scheme_file.specs.declared.causes.Cause.TheVariants.{OutputShort, Rows}
use Rattle.scheme_file.specs.declared.rows.Counts.{Counts}
use Rattle.scheme_file.specs.declared.rows.Name.{Name}
use Rattle.scheme_file.specs.declared.rows.WorkRow.{WorkRow}
use Rattle.scheme_file.specs.declared.rows.ItemRow.{ItemRow}
use Rattle.scheme_file.specs.Format.{Contents, Entry, Named, file}
use Rattle.scheme_file.specs.Rules.{Text}

-- ---- contents of rows

-- the bytes of a name in a text
abbrev pub bytes_at : List ℕ → Name → List ℕ
bytes_at text n = take n.len (drop n.at text)

abbrev pub item_in : List ℕ → ItemRow → Named
item_in text r = record { number = r.number; name = bytes_at text r.name }

abbrev pub entry_in : List ℕ → Work → WorkRow → Entry
entry_in text w r = record { work = w; pounds = r.pounds; hours = r.hours; name = bytes_at text r.name }

-- each work with its row
abbrev pub entries : List ℕ → List Work → List WorkRow → List Entry
entries text [] rows = []
entries text (w ∷ works) [] = []
entries text (w ∷ works) (r ∷ rows) = entry_in text w r ∷ entries text works rows

abbrev pub contents : Task → List WorkRow → List ItemRow → List ℕ → Contents
contents k rows items text = record {
  items = map (item_in text) items;
  works = entries text k.works rows;
  standing = k.standing;
  wanted = k.wanted;
}

-- a name lies in a text
abbrev pub Lies : List ℕ → Name → Type 0
Lies text n = n.at + n.len ≤ length text

-- there is one row for each work, and the names lie in the text
pub record Rowed (k : Task) (rows : List WorkRow) (items : List ItemRow) (text : List ℕ) : Type 0 where
  pub level : length rows ≡ length k.works
  pub work_names : AllByRecursion (λ (r : WorkRow). Lies text r.name) rows
  pub item_names : AllByRecursion (λ (r : ItemRow). Lies text r.name) items

-- ---- which contents a file can have

pub record SoundName (name : List ℕ) : Type 0 where
  pub some : 1 ≤ length name
  pub short : length name ≤ 40
  pub text : Text name

pub record SoundItem (i : Named) : Type 0 where
  pub low : i.number ≤ 63
  pub name : SoundName i.name

pub record SoundEntry (e : Entry) : Type 0 where
  pub pounds : e.pounds < 65536
  pub hours : e.hours < 65536
  pub name : SoundName e.name

-- strictly rising numbers, from n on
abbrev pub Rises : ℕ → List Named → Type 0
Rises n [] = Unit {0}
Rises n (i ∷ items) = (n ≤ i.number) × Rises (i.number + 1) items

-- what the rows must keep
pub record Sound (c : Contents) : Type 0 where
  pub rising : Rises 0 c.items
  pub items : AllByRecursion SoundItem c.items
  pub works : AllByRecursion SoundEntry c.works
  pub few : length c.works ≤ 64

-- sets of items below 64, and a work that gives some
pub record Giving (e : Entry) : Type 0 where
  pub needs : e.work.needs.bits < 2 ^ 64
  pub gives : e.work.gives.bits < 2 ^ 64
  pub some : e.work.gives ≡ none → ⊥

-- What a file can hold.
pub record Readable (c : Contents) : Type 0 where
  pub sound : Sound c
  pub giving : AllByRecursion Giving c.works
  pub standing : c.standing.bits < 2 ^ 64
  pub wanted : c.wanted.bits < 2 ^ 64

-- Bytes are read: they are the file of what was filled in.
pub record Reads (bytes : List ℕ) (k : Task) (rows : List WorkRow) (items : List ItemRow) : Type 0 where
  pub same : bytes ≡ file (contents k rows items bytes)
  pub readable : Readable (contents k rows items bytes)
  pub rowed : Rowed k rows items bytes

-- What an accepted reading leaves: the first rows are filled, and the later ones stay.
pub record Filled (bytes : List ℕ) (k : Task) (was works : List WorkRow) (had items : List ItemRow) (n : Counts) : Type 0 where
  pub reads : Reads bytes k (take n.works works) (take n.items items)
  pub works_room : n.works ≤ length was
  pub items_room : n.items ≤ length had
  pub later_works : drop n.works works ≡ drop n.works was
  pub later_items : drop n.items items ≡ drop n.items had
  pub bound : length bytes ≤ 7008

-- The rows can be written.
abbrev pub Fit : Task → List WorkRow → List ItemRow → List ℕ → Type 0
Fit k rows items text = Rowed k rows items text × Sound (contents k rows items text)

-- What an accepted writing leaves: the first n bytes are the file, and the later ones stay.
pub record Written (k : Task) (rows : List WorkRow) (items : List ItemRow) (text was out : List ℕ) (n : ℕ) : Type 0 where
  pub fit : Fit k rows items text
  pub same : take n out ≡ file (contents k rows items text)
  pub later : drop n out ≡ drop n was
  pub long : n ≤ length out
  pub bound : n ≤ 7008

-- Why a writing is refused: the rows, and then the room.
abbrev pub Refuses : Task → List WorkRow → List ItemRow → List ℕ → List ℕ → Cause → Type 0
Refuses k rows items text was c =
    ((c ≡ Rows) × (Fit k rows items text → ⊥))
    ⊎ ((c ≡ OutputShort) × Fit k rows items text × (length was < length (file (contents k rows items text))))
