-- A record as a machine value, and the types of the locals that hold numbers and references to records: records are plain data, so a record's value is told by
-- its fields.
use mathlib.Core.List.{List}
use mir.Val.{Val}
use mir.Syntax.{Ty, named, erased, imm, mut, w64, ty_int, ty_ref}
use denote.Struct.Laws as LL
use denote.Memory.{pointee}
use denote.Slice.{slice_ty}
use Rattle.task_records.specs.declared.Record.{Record}
use Rattle.task_records.specs.contracts.Record as R
use Rattle.task_records.proofs.Record.TheLaws as R'

-- machine values, and the same as a list of one
abbrev pub record_val : Record → Val
record_val = LL.val R.the_type R'.the_laws

abbrev pub record_vals : Record → List Val
record_vals = LL.vals R.the_type R'.the_laws

-- a number
abbrev pub word : Ty
word = ty_int w64

-- a parameter: a row of records that is lent by `&`, and one by `&mut`
abbrev pub shr_row : Ty
shr_row = slice_ty (ty_ref (named 0) imm (pointee (R.the_row).written))

abbrev pub mut_row : Ty
mut_row = slice_ty (ty_ref (named 0) mut (pointee (R.the_row).written))

-- what the code makes of them: its lifetime is erased
abbrev pub shr_ref : Ty
shr_ref = ty_ref erased imm (pointee (R.the_row).written)

abbrev pub mut_ref : Ty
mut_ref = ty_ref erased mut (pointee (R.the_row).written)
