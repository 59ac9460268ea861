-- A number in two words is given whole.
use native.Mathlib.Omega.{arith}
use Rattle.abi_words.specs.Words.{GivenWhole}

pub given-whole : GivenWhole
given-whole v = omega arith
