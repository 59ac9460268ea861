-- A card tells the plays of its sheet.
use mathlib.Core.List.{List, [], ◌++◌, ◌∷◌}
use mathlib.Core.Path.{◌∙◌, ◌≡◌, refl, subst, sym}
use native.Mathlib.Omega.{arith}
use lib.ListN.{take}
use Rattle.sheet_records.specs.declared.edition.Edition.TheVariants.{Present}
use Rattle.sheet_written.specs.Width.{heading_width}
use Rattle.sheet_reader.specs.Fine.{Accepted}
use Rattle.sheet_reader.proofs.Right.{gives}
use Rattle.serve_card.specs.Card.{card_bytes, table_bytes}
use Rattle.serve_card.specs.Positions.{Position, Table}
use Rattle.serve_card.specs.Rules.{CardTells, NoPositions}
use Rattle.serve_card.specs.Smallest.{HasPlays}
use Rattle.serve_card.proofs.Bytes.{bytes-card}
use Rattle.serve_card.proofs.Plays.{is-table}
use Rattle.serve_card.proofs.Tables.{few, table-small}

-- THEOREM: a table with the bytes of the card has exactly the complete plays
pub card-tells : CardTells
card-tells s c C U small e =
    let A : Accepted C.sheet = (gives Present s C.sheet C.type C.size C.reads).1 in
    let h = heading_width C.sheet in
    let t : C.table ≡ U =
    bytes-card C.sheet.numbers (few C.sheet A) s s h h C.type C.table U refl
    (table-small C.sheet A C.table C.positions) small (sym C.bytes ∙ e) in
    subst (HasPlays C.sheet) t (is-table C.sheet A C.table C.positions)

-- THEOREM: the card of a sheet without plays is its heading and its type
pub no-positions : NoPositions
unfolding card_bytes table_bytes
no-positions s c C none = go C.table C.positions C.bytes
  where
    go : (T : List Position) → Table C.sheet T
        → c ≡ card_bytes s (heading_width C.sheet) C.type C.sheet.numbers T
        → c ≡ take (heading_width C.sheet) s ++ (C.type ∷ [])
    go [] B e = e
    go (p ∷ T) B e =
        let b = (B.first 0 (omega arith)).begins in
        absurd (none (B.leading 0 ++ b.0) b.1)
