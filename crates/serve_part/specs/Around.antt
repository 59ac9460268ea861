-- A term around one of its parts. Document 02 [7]: "two accepted sheets that differ in one part only". "Parts inside a
-- procedure of kind 28, or inside the term in which it may be used, are left aside": nothing here leads into one.
use Rattle.std.specs.Prelude.{ℕ, List, ◌∷◌}
use Rattle.sheet_written.specs.Written.{Written, call, fetch, operate, assign, sequence, while, choose, new, Writtens}
use Rattle.sheet_written.specs.Written.{more}
use Rattle.sheet_written.specs.Meaning.{Binder, a_block}

-- a term with a gap where the part stands
mutual
  pub data Around : Type 0 where
    -- the part is the whole term
    whole : Around
    -- in an argument of a use of the id
    in_call : ℕ → Among → Around
    in-fetch : Around → Around
    -- in the left or in the right operand of an operator
    in_left : ℕ → Around → Written → Around
    in_right : ℕ → Written → Around → Around
    -- in V or in E of an assign
    in_target : Around → Written → Around
    in_source : Written → Around → Around
    -- in C or in M of a sequence
    in_first : Around → Written → Around
    in_second : Written → Around → Around
    -- in B or in C of a while
    in_test : Around → Written → Around
    in_round : Written → Around → Around
    -- in B, in M or in N of an if
    in_if : Around → Written → Written → Around
    in_then : Written → Around → Written → Around
    in_else : Written → Written → Around → Around
    -- in the block of a new, of an id and data
    in-new : ℕ → ℕ → Around → Around

  -- arguments with a gap in one of them
  pub data Among : Type 0 where
    in_this : Around → Writtens → Among
    in_later : Written → Among → Among

-- the term with a part in the gap
unfoldable mutual
  pub filled : Around → Written → Written
  filled whole m = m
  filled (in_call id A) m = call id (all_filled A m)
  filled (in-fetch C) m = fetch (filled C m)
  filled (in_left op C y) m = operate op (filled C m) y
  filled (in_right op x C) m = operate op x (filled C m)
  filled (in_target C y) m = assign (filled C m) y
  filled (in_source x C) m = assign x (filled C m)
  filled (in_first C y) m = sequence (filled C m) y
  filled (in_second x C) m = sequence x (filled C m)
  filled (in_test C y) m = while (filled C m) y
  filled (in_round x C) m = while x (filled C m)
  filled (in_if C x y) m = choose (filled C m) x y
  filled (in_then b C y) m = choose b (filled C m) y
  filled (in_else b x C) m = choose b x (filled C m)
  filled (in-new id d C) m = new id d (filled C m)

  pub all_filled : Among → Written → Writtens
  all_filled (in_this C ws) m = more (filled C m) ws
  all_filled (in_later w A) m = more w (all_filled A m)

-- "every private variable whose block encloses them": the news around the gap and those already around the term, the
-- innermost first
unfoldable mutual
  pub enclosing : Around → List Binder → List Binder
  enclosing whole bs = bs
  enclosing (in_call id A) bs = all_enclosing A bs
  enclosing (in-fetch C) bs = enclosing C bs
  enclosing (in_left op C y) bs = enclosing C bs
  enclosing (in_right op x C) bs = enclosing C bs
  enclosing (in_target C y) bs = enclosing C bs
  enclosing (in_source x C) bs = enclosing C bs
  enclosing (in_first C y) bs = enclosing C bs
  enclosing (in_second x C) bs = enclosing C bs
  enclosing (in_test C y) bs = enclosing C bs
  enclosing (in_round x C) bs = enclosing C bs
  enclosing (in_if C x y) bs = enclosing C bs
  enclosing (in_then b C y) bs = enclosing C bs
  enclosing (in_else b x C) bs = enclosing C bs
  enclosing (in-new id d C) bs = enclosing C (a_block id d ∷ bs)

  pub all_enclosing : Among → List Binder → List Binder
  all_enclosing (in_this C ws) bs = enclosing C bs
  all_enclosing (in_later w A) bs = all_enclosing A bs
