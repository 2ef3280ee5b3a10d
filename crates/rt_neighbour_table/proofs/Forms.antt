-- The form of the messages, and their laws.
use Rattle.rt_other.specs.MessageForm.{MessageForm}
use Rattle.rt_other.proofs.MessageReadBack.{FormLaws}
use Rattle.rt_neighbour_table.specs.NeighbourTable as NeighbourTable
use Rattle.rt_neighbour_table.specs.NeighbourTableLaws as neighbour_table
use Rattle.rt_neighbour_table.specs.NeighbourTableAttribute as NeighbourTableAttribute
use Rattle.rt_neighbour_table.specs.NeighbourTableAttributeLaws as neighbour_table_attribute
use Rattle.rt_neighbour_table.specs.declared.header.NeighbourTableHeader.{NeighbourTableHeader}
use Rattle.rt_neighbour_table.specs.declared.attribute.NeighbourTableAttribute.{NeighbourTableAttribute as NeighbourTablePart}

-- ---- neighbour tables

-- How messages on neighbour tables stand in bytes.
abbrev pub neighbour_table_form : MessageForm NeighbourTableHeader NeighbourTablePart
neighbour_table_form = record {
  len = 4;
  header_text = NeighbourTable.header_text;
  header_at = NeighbourTable.header_at;
  kind = NeighbourTableAttribute.kind;
  value = NeighbourTableAttribute.value;
  attribute_at = λ h. NeighbourTableAttribute.attribute_at;
  HeaderReadsBack = NeighbourTable.HeaderReadsBack;
  AttributeReadsBack = λ h. NeighbourTableAttribute.ReadsBack;
}

-- Messages on neighbour tables read back.
pub neighbour_table-laws : FormLaws neighbour_table_form
neighbour_table-laws = record {
  header_length = neighbour_table.length-header;
  header_again = neighbour_table.header-again;
  header_read = neighbour_table.header-read;
  attribute_again = λ h. neighbour_table_attribute.attribute-again tt;
  attribute_read = λ h. neighbour_table_attribute.attribute-read tt;
}
