-- What the pass over the bytes of a term promises: it does what `renumber` of the crate sheet_written says. Only inner
-- contracts cite it.
use Rattle.std.specs.Prelude.{ℕ, suc, ◌+◌, ◌≤◌, ◌<◌, ◌≡◌, Bool, false, List, [], ◌++◌, length, drop, Result, Ok, Err}
use Rattle.language.specs.declared.Numbers.{Numbers}
use Rattle.sheet_records.specs.Limits.{most_bytes}
use Rattle.sheet_written.specs.Written.{Written, call, new, procedure, Parameter, Writtens, none, more, Name, Sheet}
use Rattle.sheet_written.specs.Rules.{with_term}
use Rattle.sheet_written.specs.Meaning.{Binder, inside}
use Rattle.sheet_written.specs.Fine.{Fine, FineParameters, depth, depths}
use Rattle.sheet_written.specs.Width.{width, widths, heading_width}
use Rattle.sheet_written.specs.Renumber.{map_inside}
use Rattle.sheet_written.specs.Renumber.{Change, Renumbering, renumbered, none_left, renumber_id, renumber_parameters}
use Rattle.sheet_written.specs.Renumber.{renumber, renumber_all, renumber_sheet, is_named, taken_at_first}
use Rattle.sheet_reader.specs.Encoding.{pairs, encode, encodes, encode_sheet}
use Rattle.sheet_reader.specs.Reader.{accepted, rejected}
use Rattle.sheet_judge.specs.declared.judge.Judgement.{Judgement}
use Rattle.serve_renumber.specs.Outcome.{read_earlier, written, RenumberedBy}
use Rattle.serve_renumber.specs.Work.{Takes, Scoped, Lies, Rewrites, notes}
use Rattle.sheet_records.specs.declared.refusal.Refusal.{Refusal}
use Rattle.sheet_records.specs.declared.refusal.Cause.{Cause}
use Rattle.serve_renumber.specs.declared.step.Step.{Step}

-- what a step answers: a value and the number of changes so far, or the place of the id byte for which no id is left
abbrev pub Answer : Type 0
Answer = Result Step ℕ

abbrev pub stepped : ℕ → ℕ → Answer
stepped value changes = Ok (record { value = value; changes = changes })

-- an answer with the changes cs after n others: its value and the bytes are as Post says, the list l has the changes,
-- the ids taken are those of `then`
pub record Did {X : Type 0} (Post : X → ℕ → List ℕ → Type 0) (x : X) (cs : List Change) (then : ℕ → Bool) (n : ℕ)
    (l : List ℕ) (r : Answer) (b' l' k' : List ℕ) : Type 0 where
  pub value : ℕ
  pub answer : r ≡ stepped value (n + length cs)
  pub post : Post x value b'
  pub list : l' ≡ notes n cs l
  pub takes : Takes k' then

-- the answer is that of a renumbering; where no id is left nothing is said of what was written
unfoldable pub Found : {X : Type 0} → (X → ℕ → List ℕ → Type 0) → Renumbering X → ℕ → List ℕ → Answer → List ℕ → List ℕ →
    List ℕ → Type 0
Found Post (renumbered x cs then) n l r b' l' k' = Did Post x cs then n l r b' l' k'
Found Post (none_left p) n l r b' l' k' = r ≡ Err p

-- at most so many changes, and a value of at most v
unfoldable pub Within : ℕ → ℕ → Answer → Type 0
Within v c (Ok step) = (step.value ≤ v) × (step.changes ≤ c)
Within v c (Err place) = Unit

-- a place of at most 8,192, before which there are no more changes than bytes
unfoldable pub Onward : Answer → Type 0
Onward (Ok step) = (step.value ≤ 8192) × (step.changes ≤ step.value)
Onward (Err place) = Unit

-- the new id of a binder
pub record Chosen (b : List ℕ) (id value : ℕ) (b' : List ℕ) : Type 0 where
  pub valued : value ≡ id
  pub small : id < 255
  pub bytes : b' ≡ b

-- the id byte at a place
pub record IdFound (scope l k : List ℕ) (at id n : ℕ) (r : Answer) (l' k' : List ℕ) : Type 0 where
  pub within : Within 255 (n + 1) r
  pub does : (ns : List Name) (bs : List Binder) (f : ℕ → ℕ) (taken : ℕ → Bool) (b : List ℕ) → id < 255 →
      Scoped ns bs f scope → Takes k taken → Found (Chosen b) (renumber_id bs taken at id) n l r b l' k'

-- the pairs of parameters at a place, `many` at most
pub record WroteParameters (ns : List Name) (bs : List Binder) (f : ℕ → ℕ) (at many : ℕ) (ps : List Parameter)
    (b inner' : List ℕ) (qs : List Parameter) (value : ℕ) (b' : List ℕ) : Type 0 where
  pub same : length qs ≡ length ps
  pub scoped : Scoped ns (inside ps bs) (map_inside f ps qs) inner'
  pub bytes : Rewrites at (pairs many ps) (pairs many qs) b b'

pub record ParametersFound (s scope inner b l k : List ℕ) (at count n : ℕ) (r : Answer) (inner' b' l' k' : List ℕ) :
    Type 0 where
  pub within : Within 0 (n + count) r
  pub does : (ns : List Name) (bs cs : List Binder) (f g : ℕ → ℕ) (taken : ℕ → Bool) (many : ℕ) (earlier ps : List
      Parameter) →
      FineParameters ns earlier ps → count ≡ length ps → count ≤ many → Lies s at (pairs many ps) →
      Scoped ns bs f scope → Scoped ns cs g inner → Takes k taken →
      Found (WroteParameters ns cs g at many ps b inner') (renumber_parameters bs taken at ps) n l r b' l' k'

-- the term W at a place, with `left` levels enough for it
pub record Given (N : Numbers) (ns : List Name) (s scope k : List ℕ) (bs : List Binder) (f : ℕ → ℕ) (taken : ℕ → Bool)
    (left at : ℕ) (W : Written) : Type 0 where
  pub fine : Fine N ns bs W
  pub deep : depth W ≤ left
  pub lies : Lies s at (encode W)
  pub short : at + width W ≤ most_bytes
  pub scoped : Scoped ns bs f scope
  pub takes : Takes k taken

-- it is written as W'
pub record Wrote (at : ℕ) (W : Written) (b : List ℕ) (W' : Written) (value : ℕ) (b' : List ℕ) : Type 0 where
  pub valued : value ≡ at + width W
  pub same : width W' ≡ width W
  pub bytes : Rewrites at (encode W) (encode W') b b'

pub record PartFound (s scope b l k : List ℕ) (left at n : ℕ) (r : Answer) (b' l' k' : List ℕ) : Type 0 where
  pub onward : Onward r
  pub does : (N : Numbers) (ns : List Name) (bs : List Binder) (f : ℕ → ℕ) (taken : ℕ → Bool) (W : Written) →
      Given N ns s scope k bs f taken left at W → Found (Wrote at W b) (renumber bs f taken at W) n l r b' l' k'

-- the terms of a record, one after the other
unfoldable pub AllFine : Numbers → List Name → List Binder → Writtens → Type 0
AllFine N ns bs none = Unit
AllFine N ns bs (more w ws) = Fine N ns bs w × AllFine N ns bs ws

unfoldable pub number : Writtens → ℕ
number none = 0
number (more w ws) = suc (number ws)

pub record GivenAll (N : Numbers) (ns : List Name) (s scope k : List ℕ) (bs : List Binder) (f : ℕ → ℕ) (taken : ℕ →
    Bool)
    (left at : ℕ) (ws : Writtens) : Type 0 where
  pub fine : AllFine N ns bs ws
  pub deep : depths ws ≤ left
  pub lies : Lies s at (encodes ws)
  pub short : at + widths ws ≤ most_bytes
  pub scoped : Scoped ns bs f scope
  pub takes : Takes k taken

pub record WroteAll (at : ℕ) (ws : Writtens) (b : List ℕ) (ws' : Writtens) (value : ℕ) (b' : List ℕ) : Type 0 where
  pub valued : value ≡ at + widths ws
  pub same : widths ws' ≡ widths ws
  pub bytes : Rewrites at (encodes ws) (encodes ws') b b'

pub record PartsFound (s scope b l k : List ℕ) (left at count n : ℕ) (r : Answer) (b' l' k' : List ℕ) : Type 0 where
  pub onward : Onward r
  pub does : (N : Numbers) (ns : List Name) (bs : List Binder) (f : ℕ → ℕ) (taken : ℕ → Bool) (ws : Writtens) →
      count ≡ number ws → GivenAll N ns s scope k bs f taken left at ws →
      Found (WroteAll at ws b) (renumber_all bs f taken at ws) n l r b' l' k'

-- a use, a new and a procedure, whose parts have `left` levels
pub record CallFound (s scope b l k : List ℕ) (left at n : ℕ) (r : Answer) (b' l' k' : List ℕ) : Type 0 where
  pub onward : Onward r
  pub does : (N : Numbers) (ns : List Name) (bs : List Binder) (f : ℕ → ℕ) (taken : ℕ → Bool) (id : ℕ) (ws : Writtens) →
      Given N ns s scope k bs f taken (suc left) at (call id ws) →
      Found (Wrote at (call id ws) b) (renumber bs f taken at (call id ws)) n l r b' l' k'

pub record BlockFound (s scope b l k : List ℕ) (left at n : ℕ) (r : Answer) (b' l' k' : List ℕ) : Type 0 where
  pub onward : Onward r
  pub does : (N : Numbers) (ns : List Name) (bs : List Binder) (f : ℕ → ℕ) (taken : ℕ → Bool) (id d : ℕ) (c : Written) →
      Given N ns s scope k bs f taken (suc left) at (new id d c) →
      Found (Wrote at (new id d c) b) (renumber bs f taken at (new id d c)) n l r b' l' k'

pub record RoutineFound (s scope b l k : List ℕ) (left at n : ℕ) (r : Answer) (b' l' k' : List ℕ) : Type 0 where
  pub onward : Onward r
  pub does : (N : Numbers) (ns : List Name) (bs : List Binder) (f : ℕ → ℕ) (taken : ℕ → Bool) (id ty : ℕ)
      (ps : List Parameter) (x y : Written) → Given N ns s scope k bs f taken (suc left) at (procedure id ty ps x y) →
      Found (Wrote at (procedure id ty ps x y) b) (renumber bs f taken at (procedure id ty ps x y)) n l r b' l' k'

-- the sheet is accepted, and its term begins at the root
pub record AcceptedAt (s : List ℕ) (root : ℕ) : Type 0 where
  pub sheet : Sheet
  pub type : ℕ
  pub size : ℕ
  pub reads : read_earlier s ≡ accepted sheet type size
  pub rooted : root ≡ heading_width sheet

unfoldable pub EarlierJudged : List ℕ → Result Judgement Refusal → Type 0
EarlierJudged s (Ok x) = AcceptedAt s x.root
EarlierJudged s (Err x) = read_earlier s ≡ rejected x.reason x.place

-- the heading: the ids of its names are taken, and the scope has their arguments
pub record Headed (s : List ℕ) (root : ℕ) (k scope k' scope' : List ℕ) : Type 0 where
  pub does : (S : Sheet) (ty n : ℕ) → read_earlier s ≡ accepted S ty n → root ≡ heading_width S →
      Takes k (λ id. false) → Scoped [] [] (λ id. id) scope →
      Takes k' (is_named S.names) × Scoped S.names [] (λ id. id) scope'

-- all ids taken that a sheet declares, retires or binds
pub record Taken (s : List ℕ) (root : ℕ) (k k' : List ℕ) : Type 0 where
  pub does : (S : Sheet) (ty n : ℕ) → read_earlier s ≡ accepted S ty n → root ≡ heading_width S →
      Takes k (is_named S.names) → Takes k' (taken_at_first S)

-- the whole sheet: the bytes of it at the start of b, the changes at the start of l
pub record WroteSheet (S : Sheet) (b : List ℕ) (W : Written) (value : ℕ) (b' : List ℕ) : Type 0 where
  pub wide : length (encode_sheet (with_term S W)) ≡ length (encode_sheet S)
  pub bytes : b' ≡ encode_sheet (with_term S W) ++ drop (length (encode_sheet S)) b

pub record Worked (s : List ℕ) (root : ℕ) (b l : List ℕ) (r : Answer) (b' l' : List ℕ) : Type 0 where
  pub taken : List ℕ
  pub few : Onward r
  pub does : (S : Sheet) (ty n : ℕ) → read_earlier s ≡ accepted S ty n → root ≡ heading_width S →
      length s ≤ length b → Found (WroteSheet S b) (renumber_sheet S) 0 l r b' l' taken

-- the service, but for what reading and the lengths refuse
pub record Renumbers (s : List ℕ) (root : ℕ) (r : Result ℕ Cause) (out out' list list' : List ℕ) : Type 0 where
  pub does : (S : Sheet) (ty n : ℕ) → read_earlier s ≡ accepted S ty n → root ≡ heading_width S →
      RenumberedBy (written S (renumber_sheet S)) r out out' list list'
