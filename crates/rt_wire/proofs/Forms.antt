-- The forms of the messages, and their laws.
use Rattle.rt_other.specs.MessageForm.{MessageForm}
use Rattle.rt_other.proofs.MessageReadBack.{FormLaws}
use Rattle.rt_wire.specs.AddrLabel as AddrLabel
use Rattle.rt_wire.specs.AddrLabelLaws as addrlabel
use Rattle.rt_wire.specs.AddrLabelAttribute as AddrLabelAttribute
use Rattle.rt_wire.specs.AddrLabelAttributeLaws as addrlabel_attribute
use Rattle.rt_wire.specs.declared.addrlabel.header.AddrLabelHeader.{AddrLabelHeader}
use Rattle.rt_wire.specs.declared.addrlabel.attribute.AddrLabelAttribute.{AddrLabelAttribute as AddrLabelPart}
use Rattle.rt_wire.specs.Nsid as Nsid
use Rattle.rt_wire.specs.NsidLaws as nsid
use Rattle.rt_wire.specs.NsidAttribute as NsidAttribute
use Rattle.rt_wire.specs.NsidAttributeLaws as nsid_attribute
use Rattle.rt_wire.specs.declared.nsid.header.NsidHeader.{NsidHeader}
use Rattle.rt_wire.specs.declared.nsid.attribute.NsidAttribute.{NsidAttribute as NsidPart}
use Rattle.rt_wire.specs.Prefix as Prefix
use Rattle.rt_wire.specs.PrefixLaws as prefix
use Rattle.rt_wire.specs.PrefixAttribute as PrefixAttribute
use Rattle.rt_wire.specs.PrefixAttributeLaws as prefix_attribute
use Rattle.rt_wire.specs.declared.prefix.header.PrefixHeader.{PrefixHeader}
use Rattle.rt_wire.specs.declared.prefix.attribute.PrefixAttribute.{PrefixAttribute as PrefixPart}

-- ---- address labels

-- How messages on address labels stand in bytes.
abbrev pub addrlabel_form : MessageForm AddrLabelHeader AddrLabelPart
addrlabel_form = record {
  len = 12;
  header_text = AddrLabel.header_text;
  header_at = AddrLabel.header_at;
  kind = AddrLabelAttribute.kind;
  value = AddrLabelAttribute.value;
  attribute_at = λ h. AddrLabelAttribute.attribute_at;
  HeaderReadsBack = AddrLabel.HeaderReadsBack;
  AttributeReadsBack = λ h. AddrLabelAttribute.ReadsBack;
}

-- Messages on address labels read back.
pub addrlabel-laws : FormLaws addrlabel_form
addrlabel-laws = record {
  header_length = addrlabel.length-header;
  header_again = addrlabel.header-again;
  header_read = addrlabel.header-read;
  attribute_again = λ h. addrlabel_attribute.attribute-again tt;
  attribute_read = λ h. addrlabel_attribute.attribute-read tt;
}

-- ---- network namespaces

-- How messages on network namespaces stand in bytes.
abbrev pub nsid_form : MessageForm NsidHeader NsidPart
nsid_form = record {
  len = 4;
  header_text = Nsid.header_text;
  header_at = Nsid.header_at;
  kind = NsidAttribute.kind;
  value = NsidAttribute.value;
  attribute_at = λ h. NsidAttribute.attribute_at;
  HeaderReadsBack = Nsid.HeaderReadsBack;
  AttributeReadsBack = λ h. NsidAttribute.ReadsBack;
}

-- Messages on network namespaces read back.
pub nsid-laws : FormLaws nsid_form
nsid-laws = record {
  header_length = nsid.length-header;
  header_again = nsid.header-again;
  header_read = nsid.header-read;
  attribute_again = λ h. nsid_attribute.attribute-again tt;
  attribute_read = λ h. nsid_attribute.attribute-read tt;
}

-- ---- prefixes

-- How messages on prefixes stand in bytes.
abbrev pub prefix_form : MessageForm PrefixHeader PrefixPart
prefix_form = record {
  len = 12;
  header_text = Prefix.header_text;
  header_at = Prefix.header_at;
  kind = PrefixAttribute.kind;
  value = PrefixAttribute.value;
  attribute_at = λ h. PrefixAttribute.attribute_at;
  HeaderReadsBack = Prefix.HeaderReadsBack;
  AttributeReadsBack = λ h. PrefixAttribute.ReadsBack;
}

-- Messages on prefixes read back.
pub prefix-laws : FormLaws prefix_form
prefix-laws = record {
  header_length = prefix.length-header;
  header_again = prefix.header-again;
  header_read = prefix.header-read;
  attribute_again = λ h. prefix_attribute.attribute-again tt;
  attribute_read = λ h. prefix_attribute.attribute-read tt;
}
