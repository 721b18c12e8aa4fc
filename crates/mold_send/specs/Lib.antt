pub mod PublishLoop
