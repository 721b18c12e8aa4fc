-- The codes of a world's values.
use Rattle.std.specs.Prelude.{ℕ, Bool, List, refl}
use Rattle.std.specs.Coded.{Coded, code_by, coded×, coded_bool, coded_list, coded_ℕ}
use Rattle.mold_receiver.specs.Arbiter.{Arbitration, arbitration_code}
use Rattle.mold_receiver.specs.Batch.{Handed}
use Rattle.mold_session.specs.Journal.{JournalState}
use Rattle.mold_session.specs.Publisher.{PublisherState}
use Rattle.mold_world.specs.World.{SubscriberState, WorldState}

-- The code of a batch: the pair of its fields.
abbrev pub handed_code : Coded Handed
handed_code = code_by (ℕ × List (List ℕ)) (coded× coded_ℕ (coded_list (coded_list coded_ℕ)))
    (λ h. (h.first, h.messages))
    (λ p. record { first = p.0; messages = p.1 })
    (λ _. refl)

-- The code of a receiver with its book: the pair of its fields.
abbrev pub subscriber_code : Coded SubscriberState
subscriber_code = code_by (Arbitration × Handed) (coded× arbitration_code handed_code)
    (λ p. (p.arbitration, p.book))
    (λ p. record { arbitration = p.0; book = p.1 })
    (λ _. refl)

-- The code of a journal: the tuple of its fields.
abbrev pub journal_code : Coded JournalState
journal_code = code_by (List ℕ × (ℕ × (List (List ℕ) × Bool)))
    (coded× (coded_list coded_ℕ) (coded× coded_ℕ (coded× (coded_list (coded_list coded_ℕ)) coded_bool)))
    (λ j. (j.session.0, (j.max_message, (j.messages, j.closed))))
    (λ p. record { session = record { 0 = p.0 }; max_message = p.1.0; messages = p.1.1.0; closed = p.1.1.1 })
    (λ _. refl)

-- The code of a publisher: the tuple of its fields.
abbrev pub publisher_code : Coded PublisherState
publisher_code = code_by (JournalState × (ℕ × ℕ)) (coded× journal_code (coded× coded_ℕ coded_ℕ))
    (λ p. (p.journal, (p.limit, p.sent)))
    (λ p. record { journal = p.0; limit = p.1.0; sent = p.1.1 })
    (λ _. refl)

-- The code of a world: the tuple of its fields.
abbrev pub world_code : Coded WorldState
world_code = code_by (PublisherState × (ℕ × (ℕ × (List (List ℕ) × List SubscriberState))))
    (coded× publisher_code
    (coded× coded_ℕ (coded× coded_ℕ (coded× (coded_list (coded_list coded_ℕ)) (coded_list subscriber_code)))))
    (λ w. (w.publisher, (w.server_limit, (w.burst, (w.sent, w.subscribers)))))
    (λ p. record {
      publisher = p.0;
      server_limit = p.1.0;
      burst = p.1.1.0;
      sent = p.1.1.1.0;
      subscribers = p.1.1.1.1;
    })
    (λ _. refl)
