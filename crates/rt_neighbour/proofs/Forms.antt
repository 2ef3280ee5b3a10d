-- The form of the messages, and their laws.
use Rattle.rt_other.specs.MessageForm.{MessageForm}
use Rattle.rt_other.proofs.MessageReadBack.{FormLaws}
use Rattle.rt_neighbour.specs.Neighbour as Neighbour
use Rattle.rt_neighbour.specs.NeighbourLaws as neighbour
use Rattle.rt_neighbour.specs.NeighbourAttribute as NeighbourAttribute
use Rattle.rt_neighbour.specs.NeighbourAttributeLaws as neighbour_attribute
use Rattle.rt_neighbour.specs.declared.header.NeighbourHeader.{NeighbourHeader}
use Rattle.rt_neighbour.specs.declared.attribute.NeighbourAttribute.{NeighbourAttribute as NeighbourPart}

-- ---- neighbours

-- How messages on neighbours stand in bytes.
abbrev pub neighbour_form : MessageForm NeighbourHeader NeighbourPart
neighbour_form = record {
  len = 12;
  header_text = Neighbour.header_text;
  header_at = Neighbour.header_at;
  kind = NeighbourAttribute.kind;
  value = NeighbourAttribute.value;
  attribute_at = λ h. NeighbourAttribute.attribute_at h.family;
  HeaderReadsBack = Neighbour.HeaderReadsBack;
  AttributeReadsBack = λ h. NeighbourAttribute.ReadsBack h.family;
}

-- Messages on neighbours read back.
pub neighbour-laws : FormLaws neighbour_form
neighbour-laws = record {
  header_length = neighbour.length-header;
  header_again = neighbour.header-again;
  header_read = neighbour.header-read;
  attribute_again = λ h. neighbour_attribute.attribute-again h.family;
  attribute_read = λ h. neighbour_attribute.attribute-read h.family;
}
