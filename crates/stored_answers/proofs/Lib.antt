mod KeepLaws
