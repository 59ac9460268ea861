-- Where the bytes of a part stand in those of its sheet. Document 01, "The sheet, byte by byte"; document 02 [7].
use Rattle.std.specs.Prelude.{ℕ, ◌+◌, ◌≡◌, length}
use Rattle.sheet_written.specs.Written.{Written, Sheet}
use Rattle.sheet_written.specs.Width.{heading_width}
use Rattle.sheet_reader.specs.Encoding.{encode}
use Rattle.serve_part.specs.Around.{Around, whole, in_call, in-fetch, in_left, in_right, in_target, in_source}
use Rattle.serve_part.specs.Around.{in_first, in_second, in_test, in_round, in_if, in_then, in_else, in-new}
use Rattle.serve_part.specs.Around.{Among, in_this, in_later, filled}

-- how many bytes of the term stand before the gap
unfoldable mutual
  pub bytes_before : Around → ℕ
  bytes_before whole = 0
  bytes_before (in_call id A) = 2 + all_before A
  bytes_before (in-fetch C) = 1 + bytes_before C
  bytes_before (in_left op C y) = 2 + bytes_before C
  bytes_before (in_right op x C) = 2 + length (encode x) + bytes_before C
  bytes_before (in_target C y) = 1 + bytes_before C
  bytes_before (in_source x C) = 1 + length (encode x) + bytes_before C
  bytes_before (in_first C y) = 1 + bytes_before C
  bytes_before (in_second x C) = 1 + length (encode x) + bytes_before C
  bytes_before (in_test C y) = 1 + bytes_before C
  bytes_before (in_round x C) = 1 + length (encode x) + bytes_before C
  bytes_before (in_if C x y) = 1 + bytes_before C
  bytes_before (in_then b C y) = 1 + length (encode b) + bytes_before C
  bytes_before (in_else b x C) = 1 + length (encode b) + length (encode x) + bytes_before C
  bytes_before (in-new id d C) = 3 + bytes_before C

  pub all_before : Among → ℕ
  all_before (in_this C ws) = bytes_before C
  all_before (in_later w A) = length (encode w) + all_before A

-- m is a part of S, in the gap of C, and its kind byte is at a place
pub record StandsAt (S : Sheet) (C : Around) (m : Written) (place : ℕ) : Type 0 where
  pub term : S.term ≡ filled C m
  pub here : place ≡ heading_width S + bytes_before C
