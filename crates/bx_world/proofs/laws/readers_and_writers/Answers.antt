use Rattle.bx_world.proofs.Persons.{readers_may, writers_may}
use Rattle.bx_world.proofs.laws.readers_and_writers.Goals as goal

pub returns-clause-readers : goal.returns-clause-readers
returns-clause-readers c = readers_may

pub returns-clause-writers : goal.returns-clause-writers
returns-clause-writers c = writers_may
