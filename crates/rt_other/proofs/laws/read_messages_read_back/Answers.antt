use Rattle.rt_other.proofs.MessageReadBack.{read-messages-again}
use Rattle.rt_other.proofs.laws.read_messages_read_back.Goals as goal

pub returns : goal.returns
returns g c =
    let by = g.H.Header.by in
    let attribute = g.met.A.Attribute c.lifetimes assumption in
    read-messages-again _ (record {
      header_length = g.met.H.Fixed.text_length;
      header_again = g.met.H.Fixed.reads_back;
      header_read = g.met.H.Fixed.read_reads_back;
      attribute_again = λ h. attribute.reads_back (by h);
      attribute_read = λ h. attribute.read_reads_back (by h);
    })
