-- The form of the messages, and their laws.
use Rattle.rt_other.specs.MessageForm.{MessageForm}
use Rattle.rt_other.proofs.MessageReadBack.{FormLaws}
use Rattle.rt_stats.specs.Stats as Stats
use Rattle.rt_stats.specs.StatsLaws as stats
use Rattle.rt_stats.specs.StatsAttribute as StatsAttribute
use Rattle.rt_stats.specs.StatsAttributeLaws as stats_attribute
use Rattle.rt_stats.specs.declared.stats.header.StatsHeader.{StatsHeader}
use Rattle.rt_stats.specs.declared.stats.attribute.StatsAttribute.{StatsAttribute as StatsPart}

-- How messages on statistics stand in bytes.
abbrev pub stats_form : MessageForm StatsHeader StatsPart
stats_form = record {
  len = 12;
  header_text = Stats.header_text;
  header_at = Stats.header_at;
  kind = StatsAttribute.kind;
  value = StatsAttribute.value;
  attribute_at = λ h. StatsAttribute.attribute_at;
  HeaderReadsBack = Stats.HeaderReadsBack;
  AttributeReadsBack = λ h. StatsAttribute.ReadsBack;
}

-- Messages on statistics read back.
pub stats-laws : FormLaws stats_form
stats-laws = record {
  header_length = stats.length-header;
  header_again = stats.header-again;
  header_read = stats.header-read;
  attribute_again = λ h. stats_attribute.attribute-again tt;
  attribute_read = λ h. stats_attribute.attribute-read tt;
}
