-- Which names a sheet uses, as the code gives it: the mark, how many of its bits are set, and the first declared record
-- without one. Document 02 [6]. SHEETS 8.2.
use Rattle.sheet_written.specs.Written.{Sheet}
use Rattle.sheet_written.specs.Uses.{mark_of, used_of, unused_of}
use Rattle.sheet_judge.specs.declared.mark.Uses.{Uses}

unfoldable pub uses_of : Sheet → Uses
uses_of S = record { mark = mark_of S; used = used_of S; unused = unused_of S }
