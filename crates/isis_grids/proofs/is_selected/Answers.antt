-- Each arm is one test of the definitions.
use Rattle.isis_grids.proofs.Taken.{taken_not, read_at, taken-naming, taken-alone, taken-general, taken-plain}
use Rattle.isis_grids.proofs.is_selected.Goals as goal

pub returns-then-not-is_read : goal.returns-then-not-is_read
returns-then-not-is_read c = taken_not _ c.requires _ _ c.is_read.ensures c.if-not-is_read.true

pub names_in-requires : goal.names_in-requires
names_in-requires c = read_at _ c.requires _ c.is_read.ensures c.if-not-is_read.false

pub returns-then-not-is_read-2 : goal.returns-then-not-is_read-2
returns-then-not-is_read-2 c = taken_not _ c.requires _ _ c.is_read-in-RsvpTeAlone.ensures c.if-not-is_read-2.true

pub is_alone-requires : goal.is_alone-requires
is_alone-requires c = read_at _ c.requires _ c.is_read-in-RsvpTeAlone.ensures c.if-not-is_read-2.false

pub returns-else-not-is_read : goal.returns-else-not-is_read
returns-else-not-is_read c = taken-naming _ c.requires _ _ _ c.in-Naming.is
    (read_at _ c.requires _ c.is_read.ensures
    c.if-not-is_read.false) c.names_in.ensures

pub returns-in-General : goal.returns-in-General
returns-in-General c = taken-general _ c.requires _ _ c.in-General.is c.is_general.ensures

pub returns-else-not-is_read-2 : goal.returns-else-not-is_read-2
returns-else-not-is_read-2 c = taken-alone _ c.requires _ _ c.in-RsvpTeAlone.is
    (read_at _ c.requires _ c.is_read-in-RsvpTeAlone.ensures c.if-not-is_read-2.false)
    c.is_alone.ensures

pub returns-in-WithoutL : goal.returns-in-WithoutL
returns-in-WithoutL c = taken-plain _ c.requires _ _ c.in-WithoutL.is c.is_read-in-WithoutL.ensures
