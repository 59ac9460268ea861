-- How many bytes a text has at most.
use Prim.Native.Nat.{ℕ, zero, suc, ◌+◌, ◌-◌, ◌*◌, ◌/◌, ◌%◌, ◌≤◌, ◌<◌}
use native.Mathlib.Omega.{arith}
use mathlib.Core.List.{List, [], ◌∷◌, ◌++◌}
use lib.Dec.{ltb}
use lib.ListN.{length, get_or, length-append}
use borrow.Author.Tests.{lt-ltb, le-ltb, ltb-true, ltb-false}
use Rattle.language.specs.Number.{from_byte}
use Rattle.language.proofs.NumberLaws.{by-test}
use Rattle.sheet_records.specs.declared.refusal.Cause.{Cause}
use Rattle.print_text.specs.Text.{ascii, digits, signed_digits, sheet_name, refused_text, sizes_text, names_text}
use Rattle.print_text.specs.Text.{uses_text, apart_text, value_text, move_text}
use Rattle.print_report.specs.Changes.{change_text, change_at, changes_text, changed_text}
use Rattle.print_text.proofs.Decimals.{digits-one, digits_more, signed_low, signed_high}
use Rattle.sheet_records.specs.Refusal.{number_of}
use Rattle.sheet_records.specs.declared.refusal.Sheets.{Sheets}
use Rattle.sheet_records.specs.declared.refusal.Sheets.TheVariants.{Old, New, Both}

pub record AtMost (n : ℕ) (xs : List ℕ) : Type 0 where
  pub holds : length xs ≤ n

pub all : (xs : List ℕ) → AtMost (length xs) xs
all xs = record { holds = omega arith }

pub looser : {m : ℕ} {xs : List ℕ} (n : ℕ) → m ≤ n → AtMost m xs → AtMost n xs
looser n h p = record { holds = omega (arith, p.holds) }

-- one text after another
pub both : {m n : ℕ} {xs ys : List ℕ} → AtMost m xs → AtMost n ys → AtMost (m + n) (xs ++ ys)
both {m} {n} {xs} {ys} p q = record { holds = omega (arith, length-append xs ys, p.holds, q.holds) }

-- numbers of one digit, and of one digit more than others
one-digit : (v : ℕ) → v < 10 → AtMost 1 (digits v)
one-digit v h = rw (digits-one v h) (all ((48 + v) ∷ []))

digit-more : (k n : ℕ) → 1 ≤ k → ((w : ℕ) → w < n → AtMost k (digits w)) → (v : ℕ) → v < 10 * n →
    AtMost (k + 1) (digits v)
digit-more k n h f v l =
    by-test (ltb v 10)
    (λ t. looser (k + 1) (omega arith) (one-digit v (ltb-true v 10 t)))
    (λ t. let q : v / 10 < n = omega arith in
    let p = both (f (v / 10) q) (all ((48 + v % 10) ∷ [])) in
    rw (digits_more v (ltb-false v 10 t)) p)

two_digits : (v : ℕ) → v < 100 → AtMost 2 (digits v)
two_digits v h = digit-more 1 10 (omega arith) one-digit v h

three-digits : (v : ℕ) → v < 1000 → AtMost 3 (digits v)
three-digits v h = digit-more 2 100 (omega arith) two_digits v h

four-digits : (v : ℕ) → v < 10000 → AtMost 4 (digits v)
four-digits v h = digit-more 3 1000 (omega arith) three-digits v h

-- a 1 and so many noughts, and the numbers below it
abbrev tens : ℕ → ℕ
tens zero = 1
tens (suc k) = 10 * tens k

few-digits : (k v : ℕ) → v < tens (suc k) → AtMost (suc k) (digits v)
few-digits zero v h = one-digit v h
few-digits (suc k) v h =
    looser (suc (suc k)) (omega arith) (digit-more (suc k) (tens (suc k)) (omega arith) (few-digits k) v h)

-- the number of a byte
signed-short : (b : ℕ) → b < 256 → AtMost 4 (signed_digits (from_byte b))
signed-short b h =
    by-test (ltb b 128)
    (λ t. rw (signed_low b (ltb-true b 128 t)) (looser 4 (omega arith) (three-digits b (omega arith))))
    (λ t. let p = both (all (ascii "-")) (three-digits (256 - b) (omega arith)) in
    rw (signed_high b (ltb-false b 128 t) h) p)

-- the name of a sheet
name-short : (sheet : Sheets) → AtMost 4 (sheet_name sheet)
unfolding sheet_name
name-short Old = looser 4 (omega arith) (all (ascii "old"))
name-short New = looser 4 (omega arith) (all (ascii "new"))
name-short Both = all (ascii "both")

-- the lines
pub refused-short : (x : Cause) → number_of x.reason < 100 → x.place < 10000 → AtMost 21 (refused_text x)
unfolding refused_text
refused-short x h l =
    let p = both (both (both (both (both (both (all (ascii "refused ")) (two_digits (number_of x.reason) h)) (all (ascii " ")))
    (name-short x.sheet)) (all (ascii " "))) (four-digits x.place l)) (all (ascii "\n")) in
    p

pub sizes-short : (old new : ℕ) → old < 10000 → new < 10000 → AtMost 18 (sizes_text old new)
unfolding sizes_text
sizes-short old new h l =
    let p = both (both (both (both (all (ascii "old ")) (four-digits old h)) (all (ascii " new ")))
    (four-digits new l)) (all (ascii "\n")) in
    p

names-short : (used declared : ℕ) → used ≤ 32 → declared ≤ 32 → AtMost 8 (names_text used declared)
unfolding names_text
names-short used declared h l =
    let p = both (both (two_digits used (omega arith)) (all (ascii " of "))) (two_digits declared (omega arith)) in
    p

pub uses-short : (used declared used' declared' : ℕ) → used ≤ 32 → declared ≤ 32 → used' ≤ 32 → declared' ≤ 32 →
    AtMost 27 (uses_text used declared used' declared')
unfolding uses_text
uses-short used declared used' declared' h l h' l' =
    let p = both (both (both (both (all (ascii "uses ")) (names-short used declared h l)) (all (ascii " and ")))
    (names-short used' declared' h' l')) (all (ascii "\n")) in
    p

pub apart-short : (sheet : Sheets) (moves : ℕ) → moves < 10000 → AtMost 19 (apart_text sheet moves)
unfolding apart_text
apart-short sheet moves h =
    let p = both (both (both (both (all (ascii "apart in ")) (name-short sheet)) (all (ascii " ")))
    (four-digits moves h)) (all (ascii "\n")) in
    p

-- a move: its kind has one digit, its id and its argument have three at most
line-short : (k i j b : ℕ) → k < 10 → i < 256 → j < 256 → AtMost 5 (value_text k b) → AtMost 15 (move_text k i j b)
unfolding move_text
line-short k i j b hk hi hj hv =
    let p = both (both (both (both (both (both (one-digit k hk) (all (ascii " "))) (three-digits i (omega arith)))
    (all (ascii " "))) (three-digits j (omega arith))) hv) (all (ascii "\n")) in
    p

pub plain-line : (k i j b : ℕ) → k < 5 → i < 256 → j < 256 → AtMost 15 (move_text k i j b)
unfolding value_text
plain-line k i j b hk hi hj =
    line-short k i j b (omega arith) hi hj (rw (lt-ltb k 5 hk) (looser 5 (omega arith) (all [])))

pub valued-line : (k i j b : ℕ) → 5 ≤ k → k < 7 → i < 256 → j < 256 → b < 256 → AtMost 15 (move_text k i j b)
unfolding value_text
valued-line k i j b gk hk hi hj hb =
    let p = both (all (ascii " ")) (signed-short b hb) in
    line-short k i j b (omega arith) hi hj (rw (le-ltb k 5 gk) p)

-- a change: its place has two bytes, its ids have one each
change-short : (place old given : ℕ) → place < 65536 → old < 256 → given < 256 → AtMost 14 (change_text place old given)
unfolding change_text
change-short place old given h l m =
    let p = both (both (both (both (both (few-digits 4 place (omega arith)) (all (ascii " ")))
    (three-digits old (omega arith))) (all (ascii " "))) (three-digits given (omega arith))) (all (ascii "\n")) in
    p

-- the bytes of the first n changes
abbrev Bytes : ℕ → List ℕ → Type 0
Bytes n list = (j : ℕ) → j < 4 * n → get_or list j 0 < 256

change-at-short : (i : ℕ) (list : List ℕ) → Bytes (i + 1) list → AtMost 14 (change_at i list)
unfolding change_at
change-at-short i list b =
    change-short (get_or list (4 * i) 0 + 256 * get_or list (4 * i + 1) 0) (get_or list (4 * i + 2) 0)
    (get_or list (4 * i + 3) 0) (omega (arith, b (4 * i) (omega arith), b (4 * i + 1) (omega arith)))
    (b (4 * i + 2) (omega arith)) (b (4 * i + 3) (omega arith))

changes-short : (n i : ℕ) (list : List ℕ) → Bytes (i + n) list → AtMost (14 * n) (changes_text n i list)
unfolding changes_text
changes-short zero i list b = all []
changes-short (suc n) i list b =
    let p = both (change-at-short i list (λ j l. b j (omega (arith, l))))
    (changes-short n (i + 1) list (λ j l. b j (omega (arith, l)))) in
    looser (14 * suc n) (omega arith) p

pub changed-short : (n : ℕ) (list : List ℕ) → n < 1000 → Bytes n list → AtMost (12 + 14 * n) (changed_text n list)
unfolding changed_text
changed-short n list h b =
    let p = both (both (both (all (ascii "changes ")) (three-digits n h)) (all (ascii "\n")))
    (changes-short n 0 list (λ j l. b j (omega (arith, l)))) in
    p
