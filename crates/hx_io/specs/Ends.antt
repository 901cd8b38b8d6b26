-- The ends of reading a source to its end.
use Rattle.std.specs.Prelude.{Result, Ok, Err}
use Rattle.hx_io.specs.declared.source.ReadAllError.{ReadAllError}
use Rattle.hx_io.specs.declared.source.ReadAllError.TheVariants.{ReadFault}

-- no read has failed: all was read, too much came, or memory ran out
abbrev pub HasNoFault : {T : Type 0} → Result T ReadAllError → Type 0
HasNoFault (Ok bytes) = Unit {0}
HasNoFault (Err ReadFault) = ⊥
HasNoFault (Err other) = Unit {0}
