use Rattle.session_model.specs.Networks.{octets_of}
use Rattle.mirror.proofs.answers.AddressOctets.new.Goals as goal

pub returns-in-V4-clause-octets : goal.returns-in-V4-clause-octets
unfolding octets_of
returns-in-V4-clause-octets c = rw c.in-V4.is c.to_be_bytes.ensures

pub returns-in-V6-clause-octets : goal.returns-in-V6-clause-octets
unfolding octets_of
returns-in-V6-clause-octets c = rw c.in-V6.is c.to_be_bytes-in-V6.ensures
