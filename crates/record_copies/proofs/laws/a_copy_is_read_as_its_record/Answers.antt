use Rattle.record_copies.proofs.CopiedKinds.{given_again}
use Rattle.record_copies.proofs.Needed.{needed}
use Rattle.record_copies.proofs.laws.a_copy_is_read_as_its_record.Goals as goal

pub returns-clause-read : goal.returns-clause-read
returns-clause-read c = given_again

pub returns-clause-needed : goal.returns-clause-needed
returns-clause-needed c = needed
