use Rattle.request_words.proofs.GroupLaws.{groups_codec, head_codec}
use Rattle.request_words.proofs.RawLaws.{raw_codec}
use Rattle.request_words.proofs.ResourceLaws.{resource_codec}
use Rattle.request_words.proofs.SpecifierLaws.{specifier_codec}
use Rattle.request_words.proofs.ValueLaws.{value_codec}
use Rattle.request_words.proofs.laws.words_both_ways.Goals as goal

pub returns-clause-resource : goal.returns-clause-resource
returns-clause-resource c = resource_codec

pub returns-clause-head : goal.returns-clause-head
returns-clause-head c = head_codec

pub returns-clause-value : goal.returns-clause-value
returns-clause-value c = value_codec

pub returns-clause-groups : goal.returns-clause-groups
returns-clause-groups c = groups_codec

pub returns-clause-specifier : goal.returns-clause-specifier
returns-clause-specifier c = specifier_codec

pub returns-clause-raw : goal.returns-clause-raw
returns-clause-raw c = raw_codec
