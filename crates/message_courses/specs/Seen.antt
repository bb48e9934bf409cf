-- An envelope as a plain value.
use Rattle.node_model.specs.Heard as models
use Rattle.message_courses.specs.declared.hearing.Envelope.{Envelope}

-- the header, the code and the bytes behind the header that an envelope lends
abbrev pub seen : Envelope → models.Envelope
seen e = record { header = e.header; code = e.code; behind = e.behind.now }
