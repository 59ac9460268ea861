-- Every row of the tables of sheets worked through holds: one computation over each whole table.
use mathlib.Core.Path.{◌≡◌, refl}
use mathlib.Core.Bool.{true}
use native.Mathlib.Decide.{dec_lt, ℕ_discrete}
use Rattle.language.specs.Number.{finites, extras, numbers, class_of, special, in_range, modulo, code, signed, from_byte}
use Rattle.language.specs.Term.{apply, onces}
use Rattle.language.specs.Typing.{operands}
use Rattle.language.specs.Operator as operators
use Rattle.language.specs.Operator.{fit, truth, settled, compared, plus_of, minus_of, equal_of, operate}
use Rattle.language.specs.Move.{kind, value_of}
use Rattle.language.specs.Ty as types
use Rattle.language.specs.Weight.{weight, size}
use Rattle.sheet_records.specs.Kind.{shape_of}
use Rattle.sheet_records.specs.Standing.{standing_of, is_named, is_held, variable_standing, declared_standing, result_of, count_of}
use Rattle.sheet_records.specs.Standing.{argument_of}
use Rattle.sheet_judgements.specs.Judge.{and_then, unused, hides}
use Rattle.sheet_judgements.specs.Judge as judge
use Rattle.sheet_heads.specs.Head as head
use Rattle.sheet_heads.specs.Head.{byte_of, on_byte, with_body, limited, constant, used, use_of, data_byte, new_of, body_of}
use Rattle.sheet_heads.specs.Head.{blank, head_of}
use Rattle.sheet_parts.specs.Rule.{values, operand_type, result_type, accepts_part, part_type}
use Rattle.sheet_parts.specs.Scope as scope
use Rattle.sheet_parts.specs.Scope.{entered}
use Rattle.sheet_reader.specs.Heading.{fresh, argument, declare_of, often_of, declare_at}
use Rattle.sheet_written.specs.Environment.{beyond}
use Rattle.sheet_written.specs.Meaning as meaning
use Rattle.sheet_written.specs.Meaning.{declared, id_of, meant, ty_of, use_type, typed, by_meaning, no_terms, with-level}
use Rattle.sheet_written.specs.Meaning.{resolve, term_of}
use Rattle.sheet_reader.specs.Reader as reader
use Rattle.sheet_reader.specs.Reader.{bind, on_head, on_judged, parts_of, scope_parts, read_part, with_name, whole_of_shape, name_of}
use Rattle.sheet_reader.specs.Reader.{names_step, names_of, size_in, whole_by, rest, build, written, checks, sheet_in, read_under}
use Rattle.states_machine.specs.Action.{who, heard, map_next, map_action}
use Rattle.states_machine.specs.Decide.{when, map_dec, fits?, answers-to, answers?, fits-at?, hears?, same-move?}
use Rattle.states_machine.specs.Position.{entry}
use Rattle.states_machine.specs.Step.{on_done, on_ok, on_value, on_truth, on_some, ask_variable, access, enter, listen, again}
use Rattle.states_machine.specs.Step.{closing, closes, step}
use Rattle.states_machine.specs.Numbered as Numbers-of
use Rattle.states_machine.specs.Numbered.{single, iso, sum_code, sum_decode, sum, product_decode, product}
use Rattle.states_machine.specs.Numbering.{alone, numbered_questions, numbered_answers, numbered_replies, numbered_name}
use Rattle.states_machine.specs.Numbering.{numbered_spent, numbered_use, numbered}
use Rattle.states_machine.specs.Sheet.{opens, sheet, numbered_sheet, numbered_spots, numbered_step, steps, begin}
use Rattle.states_machine.specs.Edge.{received, edge_hear, edge}
use Rattle.states_machine.specs.Settle.{skipped, settle, next, run}
use Rattle.serve_compare.specs.Worked.{table, AllWorked, once_table, OnceWorked}
use Rattle.serve_compare.proofs.Listing.{all, below, questions_of, answers_of, asked_of, heard_of, moves_of, moves_at}
use Rattle.serve_compare.proofs.Search.{less_value, less, earlier, listed, union, insert, sorted, ends, coded}
use Rattle.serve_compare.proofs.Search.{state_by, state_of, first_of, paired, moves_both, next_pairs, reached, closed}
use Rattle.serve_compare.proofs.Search.{related, agree, agree_below, agree_after, foremost, only, first, found}
use Rattle.serve_compare.proofs.Worked.{first_found, decided, row_read, row_checked, checked-rows}

-- the rows of the tables are checked
tables-checked : (all row_checked table ≡ true) × (all row_checked once_table ≡ true)
unfolding read_under checks whole_by reader.closed bind names_of names_step whole_of_shape name_of on_judged declare_of and_then
    judge.below unused fresh argument often_of declare_at with_name read_part scope_parts scope.opens reader.read_record parts_of
    on_head size_in sheet_in values operand_type result_type accepts_part part_type standing_of result_of count_of argument_of
    entered shape_of is_named is_held hides variable_standing declared_standing byte_of on_byte with_body limited
    constant used use_of data_byte new_of body_of blank head_of head.head_of_shape finites extras numbers class_of special
    in_range reader.first rest build written modulo code signed from_byte apply operands operators.beyond fit truth settled
    compared plus_of minus_of equal_of operate kind value_of declared id_of meant beyond
    meaning.meaning ty_of use_type typed by_meaning no_terms with-level resolve term_of meaning.type_of size weight onces
    types.questions types.answers who heard map_next map_action when
    map_dec fits? answers-to answers? fits-at? hears? same-move? entry on_done on_ok on_value on_truth on_some ask_variable
    access enter listen again closing closes step single Numbers-of.values iso sum_code sum_decode sum product_decode
    product alone
    numbered_questions numbered_answers numbered_replies numbered_spent numbered_name numbered_use numbered opens sheet
    numbered_sheet numbered_spots numbered_step steps begin received edge_hear edge skipped settle next run all
    below questions_of answers_of asked_of heard_of moves_of moves_at less_value less earlier listed union insert
    sorted ends coded state_by state_of first_of paired moves_both next_pairs reached closed related agree agree_below
    agree_after foremost only first found first_found decided row_read row_checked dec_lt ℕ_discrete
tables-checked = (refl, refl)

-- THEOREM: every row of the table holds
pub table-worked : AllWorked
table-worked = checked-rows table tables-checked.0

-- THEOREM: the tenth row is "same" where f asks once
pub once-worked : OnceWorked
once-worked = checked-rows once_table tables-checked.1
