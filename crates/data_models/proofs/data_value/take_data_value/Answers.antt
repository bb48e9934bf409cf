use Rattle.wire_core.proofs.Decoders.{found_by, only_by, within_by}
use Rattle.data_models.specs.Laws.Stored.{data_value_is_layout}
use Rattle.data_models.proofs.data_value.take_data_value.Goals as goal

pub returns-clause-found : goal.returns-clause-found
returns-clause-found c = found_by data_value_is_layout c.args.c.now c.read_data_value.new.c c.read_data_value.result c.are_bytes.ensures c.read_data_value.ensures

pub returns-clause-only : goal.returns-clause-only
returns-clause-only c = λ datum rest spelled bytes text. only_by data_value_is_layout c.args.c.now c.read_data_value.new.c c.read_data_value.result datum rest (spelled, bytes) text c.read_data_value.ensures

pub returns-clause-within : goal.returns-clause-within
returns-clause-within c = λ bad is. within_by data_value_is_layout c.args.c.now c.read_data_value.new.c c.read_data_value.result bad c.are_bytes.ensures c.read_data_value.ensures is
